-- A making takes a step: what users have then they had, with its value, or it is the first table of the map that stands by it.
use Rattle.std.specs.Prelude.{◌*◌, Option, Some, Ok, Err, IsSome, is_some}
use Rattle.std.proofs.Common.{◌≡◌, ℕ, ◌<◌, Bool, List, [], ◌∷◌, ◌⊎◌, inl, inr, refl, arith, ap, sym, subst, ◌∙◌}
use Rattle.run_shows.specs.Given.SeizeWordsDeclared.at.At.TheVariants.{Root}
use Rattle.run_shows.specs.Given.SeizeWordsMem.{Mem, Took, value_at, word_at}
use Rattle.run_shows.specs.Given.SeizeWordsOp.{Out, Make, Found, Stored, Exchanged, Made, Taken, Roomed}
use Rattle.run_shows.specs.Given.SeizeSequence.{IsUsers}
use Rattle.run_shows.specs.Given.SeizeWorld.{World, Row, Hand, NoBlock, Making, InUse, Parting, Cutting, Event, Begin, Step, Makes, Drops, Links, Parts, Unlinks, Rewrites, Operates, Ends, LeavesOver, Relinks, Clears, Chooses, Happens, Runs, made_by, with_at}
use Rattle.run_shows.specs.Given.SeizeDeclared.advance.Advance.TheVariants as progress
use Rattle.seize_acts.specs.Acts.Reclaimed.{IsStillHad}
use Rattle.seize_acts.proofs.Given.SeizeMemoryWords.Named.{made_one}
use Rattle.seize_acts.proofs.Given.SeizeMemoryWords.There.{live_pos}
use Rattle.seize_acts.proofs.Given.SeizeRuleWorld.Values.{own_op_value, made_value, rewritten_value, taken_value}
use Rattle.seize_acts.proofs.Given.SeizeEndsBatches.Rows.{made_memory}
use Rattle.seize_acts.proofs.Given.SeizeAloneHistories.NotTaken.{IsHad, kept_there}
use Rattle.seize_acts.proofs.Given.SeizeAloneHistories.Reached.{Reached, happens_reached}
use Rattle.run_shows.specs.Given.TablesNodes.{deferred_word}
use Rattle.run_shows.specs.Given.TablesDeclared.node.Node.{Node}
use Rattle.run_shows.specs.Given.ResizeDeclared.new_map.NewMap.{NewMap}
use Rattle.run_shows.specs.Given.TablesDeclared.setting.Setting.{Setting}
use Rattle.run_shows.specs.Given.SeizeDeclared.advance.Advance.{Advance}
use Rattle.run_shows.specs.Given.RuleInWorld.{AllUsers, IsOut}
use Rattle.run_shows.proofs.Given.RuleWords.LinksSeen.{link_some, root_leads}
use Rattle.run_shows.proofs.Given.RuleWorld.Hands.{at_cases}
use Rattle.owner_facts.specs.Given.CallersTogether.{UnderWay, Together}
use Rattle.owner_facts.proofs.Given.CallersTogether.At.{at_other, at_same}
use Rattle.owner_facts.proofs.Given.CallersTogether.Came.{came_reached}
use Rattle.owner_facts.proofs.Given.CallersTogether.Users.{events_rows}
use Rattle.owner_facts.specs.Given.FinishesEndings.{Finishing, EndingsTogether}
use Rattle.owner_facts.specs.Given.FinishesMakings.{Beginning, IsFirstTable, StepsOfMaking}
use Rattle.owner_facts.specs.Given.FinishesMaps.{Standing, MapsTogether}
use Rattle.run_shows.specs.Reclaims.Deferred.{IsLinkedTable}
use Rattle.many_acts.specs.Carries.Promises.{MakingsPreserveTheirs}
use Rattle.many_acts.specs.Carries.Theirs.{CanCarry, IsTheirs, AllAreTheirs}
use Rattle.many_acts.proofs.Carries.Calls.{users_of, out_of}
use Rattle.many_acts.proofs.Carries.Owed.{stays_so, owed_on}

-- another block changes hands, or this one stays with users
moved_hand : (b : ℕ) (hand : ℕ → Hand) (c : ℕ) (new : Hand) → (b ≡ c → IsStillHad new) → IsStillHad (hand b) → IsStillHad (with_at hand c new b)
moved_hand b hand c new is had = at_cases IsStillHad hand c new b is (λ _. had)

-- What users do leaves with them what they have, with its value.
module _ {K V : Type 0} (size b : ℕ) where
  abbrev HasStill : World (Node K V) → World (Node K V) → Type 0
  HasStill w v = IsStillHad (v.hand b) × (value_at v.memory b ≡ value_at w.memory b)

  -- what was made, and not linked, is another block
  not_made : (w : World (Node K V)) (c i : ℕ) → w.hand c ≡ Making i → IsStillHad (w.hand b) → b ≡ c → ⊥
  not_made w c i is had e = subst IsStillHad (ap w.hand e ∙ is) had

  made_keeps : (w : World (Node K V)) (i words : ℕ) (value : Node K V) (out : Out (Node K V)) (m : Mem (Node K V)) → IsSome (value_at w.memory b) → Took w.memory (Make value words) out m
      → IsStillHad (w.hand b) → HasStill w (made_by deferred_word w i m out)
  made_keeps w i words value out m there took had =
      (hand out took, ap (λ (x : Mem (Node K V)). value_at x b) (made_memory deferred_word w i m out) ∙ made_value deferred_word w.memory b value words out m there took)
    where
      hand : (o : Out (Node K V)) → Took w.memory (Make value words) o m → IsStillHad ((made_by deferred_word w i m o).hand b)
      hand (Made (Ok c)) took = moved_hand b w.hand c (Making i) (λ e. absurd (let free = (made_one w.memory value words c took.0.0).was_free in cc (there, ap (value_at w.memory) e, free))) had
      hand (Made (Err back)) took = had
      hand (Found word) took = had
      hand Stored took = had
      hand (Exchanged result) took = had
      hand (Taken block) took = had
      hand (Roomed result) took = had

  event_keeps : (e : Event (Node K V)) (w v : World (Node K V)) → Reached deferred_word size w → IsUsers e → Happens deferred_word size e w v → IsStillHad (w.hand b) → HasStill w v
  event_keeps (Begin i request) w v r u h had = absurd u
  event_keeps (Step i) w v r u h had = absurd u
  event_keeps (Makes i value words) w v r u h had =
      subst (HasStill w) (sym h.4) (made_keeps w i words value h.0 h.1 (kept_there deferred_word size w r b (IsHad (users_of (w.hand b) had))) h.3 had)
  event_keeps (Drops i c) w v r u h had =
      let ne = not_made w c h.2.0 h.2.1 had in
      subst (HasStill w) (sym h.4) (moved_hand b w.hand c NoBlock (λ e. absurd (ne e)) had, taken_value deferred_word w.memory b c h.0 h.1 h.3 ne)
  event_keeps (Links i c o) w v r u h had = subst (HasStill w) (sym h.1) (moved_hand b w.hand c (InUse o) (λ e. tt) had, refl)
  event_keeps (Parts i c) w v r u h had = subst (HasStill w) (sym h.1) (moved_hand b w.hand c (Parting i) (λ e. tt) had, refl)
  event_keeps (Unlinks i c) w v r u h had = subst (HasStill w) (sym h.1) (moved_hand b w.hand c (Cutting i) (λ e. tt) had, refl)
  event_keeps (Rewrites i c value) w v r u h had =
      subst (HasStill w) (sym h.5) (had, rewritten_value deferred_word w.memory b c value h.0 h.1 h.3 (not_made w c h.2.0 h.2.1 had))
  event_keeps (Operates op) w v r u h had =
      subst (HasStill w) (sym h.4) (had, ap (λ (m : Mem (Node K V)). value_at m b) h.3.1 ∙ own_op_value deferred_word w.memory b op h.0 h.2)
  event_keeps (Ends i o) w v r u h had = absurd u
  event_keeps (LeavesOver i c further) w v r u h had = absurd u
  event_keeps (Relinks i c word) w v r u h had = absurd u
  event_keeps (Clears i c) w v r u h had = absurd u
  event_keeps (Chooses choice) w v r u h had = subst (HasStill w) (sym h) (had, refl)

  events_keep : (events : List (Event (Node K V))) (w v : World (Node K V)) → Reached deferred_word size w → AllUsers events → Runs deferred_word size events w v → IsStillHad (w.hand b) → HasStill w v
  events_keep [] w v r users runs had = subst (HasStill w) (sym runs) (had, refl)
  events_keep (e ∷ events) w v r users runs had =
      let first = event_keeps e w runs.0 r users.0 runs.1 had in
      let rest = events_keep events runs.0 v (happens_reached deferred_word size e w runs.0 r runs.1) users.1 runs.2 first.0 in (rest.0, rest.1 ∙ first.1)

module _ {K Q : Type 0} (V : Type 0) (same : K → K → Bool) (asks : Q → K → Bool) (batch_size roots : ℕ) (slot : ℕ → ℕ)
    (w : World (Node K V)) (maps : ℕ → Option (Standing K)) (calls : ℕ → ℕ → Option (UnderWay K V Q)) (makers : ℕ → Option (Beginning K)) (enders : ℕ → Option (Finishing K V)) where
  module _ (all : EndingsTogether V same asks batch_size roots slot w maps calls makers enders) (theirs : AllAreTheirs w maps calls enders) (i : ℕ) (b : Beginning K)
      (m2 : Mem (Node K V)) (end : NewMap × Advance Setting) (st : StepsOfMaking V same asks batch_size roots slot w maps calls makers i b m2 end) (maps2 : ℕ → Option (Standing K)) where
    rows_are : (j : ℕ) → st.w2.row j ≡ w.row j
    rows_are j = ap (λ (f : ℕ → Row). f j) (events_rows batch_size st.events w st.w2 st.users st.runs)

    -- what users had can carry as it could
    had_so : (x : ℕ) → IsStillHad (w.hand x) → CanCarry st.w2 maps2 calls enders x → CanCarry w maps calls enders x
    had_so x had (still, field, value, there, has_list) =
        let k = events_keep batch_size x st.events w st.w2 (came_reached batch_size w all.makings.standing.came) st.users st.runs had in (had, field, value, sym k.1 ∙ there, has_list)

    -- if each map that stood does so on, and what it has linked is a map's
    made_theirs : ((n : ℕ) (s : Standing K) → maps n ≡ Some s → maps2 n ≡ Some s) → ((x : ℕ) → 0 < x → IsFirstTable st.w2 end x → IsLinkedTable st.w2 maps2 x) → AllAreTheirs st.w2 maps2 calls enders
    made_theirs on comes x can = by (st.links x (out_of (st.w2.hand x) can.0))
      where
        theirs_on : IsTheirs w maps calls enders x → IsTheirs st.w2 maps2 calls enders x
        theirs_on (inl (n, s, is, t, from, made, at)) = inl (n, s, on n s is, t, from, made, at)
        theirs_on (inr (inl owed)) =
            inr (inl (owed_on w st.w2 maps maps2 calls enders enders x (λ n j u under. ((λ rests. rows_are j ∙ rests), λ s is. (s, on n s is, stays_so s))) owed))
        theirs_on (inr (inr ending)) = inr (inr ending)

        by : IsOut (w.hand x) ⊎ IsFirstTable st.w2 end x → IsTheirs st.w2 maps2 calls enders x
        by (inl out) = theirs_on (theirs x (had_so x (subst IsStillHad (st.outs x out) can.0) can))
        by (inr first) = inl (comes x (live_pos st.w2.memory x (ap is_some can.3)) first)

  -- the block that the root of a map that stands leads to is a linked table
  first_linked : (w2 : World (Node K V)) (maps2 : ℕ → Option (Standing K)) → MapsTogether V same asks batch_size slot w2 maps2 calls → (m : ℕ) (s : Standing K) → maps2 m ≡ Some s
      → (x : ℕ) → 0 < x → word_at w2.memory (Root s.setting.root) ≡ Some (x * 2048) → IsLinkedTable w2 maps2 x
  first_linked w2 maps2 stand m s here x some leads =
      let together : Together V same s.hash asks s.setting slot w2 s.chart s.blocks s.sights (calls m) = stand.each m s here in
      let k = link_some s.chart s.blocks (x * 2048) s.chart.first
      (root_leads same s.hash s.setting.mode s.setting.root w2.memory s.chart s.blocks together.ground.map.map (x * 2048) leads) (λ e. omega (arith, some, e)) in
      let is = k.0 in (m, s, here, s.chart.first, omega arith, k.1, omega (arith, is))

  pub makings_keep_theirs : MakingsPreserveTheirs V same asks batch_size roots slot w maps calls makers enders
  makings_keep_theirs all theirs i b makes m2 (n, progress.Goes) st = made_theirs all theirs i b m2 (n, progress.Goes) st maps (λ n s is. is) (λ x some first. absurd first)
  makings_keep_theirs all theirs i b makes m2 (n, progress.Waits) st = made_theirs all theirs i b m2 (n, progress.Waits) st maps (λ n s is. is) (λ x some first. absurd first)
  makings_keep_theirs all theirs i b makes m2 (n, progress.Refused fault) st = made_theirs all theirs i b m2 (n, progress.Refused fault) st maps (λ n s is. is) (λ x some first. absurd first)
  makings_keep_theirs all theirs i b makes m2 (n, progress.Done answer) st =
      λ s made stand. made_theirs all theirs i b m2 (n, progress.Done answer) st (with_at maps b.map (Some s))
      (λ k r is. at_other maps b.map (Some s) k (λ e. absurd (let none = all.makings.coming i b makes in let has = ap maps (sym e) ∙ is in cc (none, has))) ∙ is)
      (λ x some first. first_linked st.w2 (with_at maps b.map (Some s)) stand b.map s (at_same maps b.map (Some s) b.map refl) x some
      (ap (λ (y : Setting). word_at st.w2.memory (Root y.root)) made.setting_is ∙ first))
