-- What users have after a step, and had before it, or had made: over rows, and over what a step of a call does.
use Rattle.std.specs.Prelude.{Option, Some, None, Ok, Err, IsSome}
use Rattle.std.proofs.Common.{◌≡◌, ℕ, ◌+◌, List, [], ◌∷◌, ◌⊎◌, inl, inr, refl, ap, sym, subst, ◌∙◌}
use Rattle.run_shows.specs.Given.SeizeWordsMem.{Mem, Took, value_at}
use Rattle.run_shows.specs.Given.SeizeWordsOp.{Out, Make, Found, Stored, Exchanged, Made, Taken, Roomed}
use Rattle.run_shows.specs.Given.SeizeDeclared.states.TheConstants.{LAST_SLOT}
use Rattle.run_shows.specs.Given.SeizeLaw.{Effect, Entered, Left, Made as MadeBlock, Linked, Unlinked, Deferred, Retired, Taken as TakenBlock, Dropped, Ended, LeftOver}
use Rattle.run_shows.specs.Given.SeizeSequence.{IsUsers}
use Rattle.run_shows.specs.Given.SeizeWorld.{World, Hand, NoBlock, Making, InUse, Parting, Cutting, Handed, LeftTo, MayCut, Request, Register', Enter', Leave', LeaveOwned, Refresh, Unregister', Retire, Flush, Defer', Event, Begin, Step, Makes, Drops, Links, Parts, Unlinks, Rewrites, Operates, Ends, LeavesOver, Relinks, Clears, Chooses, Begins, Happens, Runs, Steps', handed_by, made_by, with_at}
use Rattle.seize_acts.specs.Acts.Reclaimed.{IsStillHad}
use Rattle.seize_acts.proofs.Given.SeizeRulePoints.Aside.{HandFits}
use Rattle.seize_acts.proofs.Given.SeizeMemoryWords.There.{value_there}
use Rattle.seize_acts.proofs.Given.SeizeAloneHistories.NotTaken.{did}
use Rattle.seize_acts.proofs.Given.SeizeAloneHistories.Reached.{Reached, happens_reached}
use Rattle.run_shows.specs.Given.TablesNodes.{deferred_word}
use Rattle.run_shows.specs.Given.TablesDeclared.node.Node.{Node}
use Rattle.run_shows.specs.Given.TablesDeclared.setting.Setting.{Setting}
use Rattle.run_shows.specs.Given.RuleChart.{Chart}
use Rattle.run_shows.specs.Given.RuleInWorld.{AllUsers, AllIts, IsIts, IsItsEvent, IsKnownBlock, IsOut}
use Rattle.run_shows.specs.Given.RuleWords.{Blocks}
use Rattle.run_shows.proofs.Given.RuleWorld.Hands.{at_cases}
use Rattle.run_shows.proofs.Given.RuleWords.BlocksApart.{new_apart}
use Rattle.owner_facts.specs.Given.CallersTogether.{IsOfSlots}
use Rattle.run_shows.proofs.Given.FinishesBeside.Makings.Outs.{handed_lives}

-- a row's effects leave with users what they have, or reclaim it
still_by : (b : ℕ) (effects : List Effect) (hand : ℕ → Hand) → IsStillHad (handed_by effects hand b) → handed_by effects hand b ≡ hand b
still_by b [] hand is = refl
still_by b (TakenBlock c ∷ effects) hand is =
    at_cases (λ (h : Hand). IsStillHad h → h ≡ hand b) (handed_by effects hand) c NoBlock b (λ e none. absurd none) (λ ne still. still_by b effects hand still) is
still_by b (Entered s ∷ effects) hand is = still_by b effects hand is
still_by b (Left s ∷ effects) hand is = still_by b effects hand is
still_by b (MadeBlock c ∷ effects) hand is = still_by b effects hand is
still_by b (Linked c o ∷ effects) hand is = still_by b effects hand is
still_by b (Unlinked c ∷ effects) hand is = still_by b effects hand is
still_by b (Deferred c t ∷ effects) hand is = still_by b effects hand is
still_by b (Retired c ∷ effects) hand is = still_by b effects hand is
still_by b (Dropped c ∷ effects) hand is = still_by b effects hand is
still_by b (Ended o ∷ effects) hand is = still_by b effects hand is
still_by b (LeftOver c further ∷ effects) hand is = still_by b effects hand is

module _ {T : Type 0} (defers : T → Option ℕ) (size : ℕ) where
  -- after a step of a row
  pub still_row : (w : World T) → Reached defers size w → (i : ℕ) (w2 : World T) → Steps' defers i (w.row i) w w2 → (b : ℕ) → IsStillHad (w2.hand b) → w2.hand b ≡ w.hand b
  still_row w r i w2 step b is =
      let d = did defers size w r i w2 step in
      let at : w2.hand b ≡ handed_by d.effects w.hand b = ap (λ (h : ℕ → Hand). h b) d.hands in
      at ∙ still_by b d.effects w.hand (subst IsStillHad at is)

  -- the beginning of a row on slots changes no hand, and tells nothing
  pub begun_same : (i : ℕ) (request : Request) (w w2 : World T) → IsOfSlots request → Begins defers size i request w w2 → (w2.hand ≡ w.hand) × (w2.log ≡ w.log)
  begun_same i (Register' enters) w w2 of h = (ap (λ (x : World T). x.hand) h, ap (λ (x : World T). x.log) h)
  begun_same i (Enter' s) w w2 of h = (ap (λ (x : World T). x.hand) h.1, ap (λ (x : World T). x.log) h.1)
  begun_same i (Leave' s) w w2 of h = (ap (λ (x : World T). x.hand) h.1, ap (λ (x : World T). x.log) h.1)
  begun_same i (LeaveOwned s) w w2 of h = (ap (λ (x : World T). x.hand) h.1, ap (λ (x : World T). x.log) h.1)
  begun_same i (Refresh s) w w2 of h = (ap (λ (x : World T). x.hand) h.1, ap (λ (x : World T). x.log) h.1)
  begun_same i (Unregister' s) w w2 of h = (ap (λ (x : World T). x.hand) h.1, ap (λ (x : World T). x.log) h.1)
  begun_same i (Flush s) w w2 of h = (ap (λ (x : World T). x.hand) h.1, ap (λ (x : World T). x.log) h.1)
  begun_same i (Retire s b) w w2 of h = absurd of
  begun_same i (Defer' s b t) w w2 of h = absurd of

  -- what the collector has is there
  handed_there : (w : World T) → Reached defers size w → (b : ℕ) → w.hand b ≡ Handed → IsSome (value_at w.memory b)
  handed_there w r b is =
      value_there defers (LAST_SLOT + 1) w.memory r.good.state r.good.extra b r.good.shows
      (handed_lives (r.good.state.life b) (subst (λ (h : Hand). HandFits h (r.good.state.life b)) is (r.good.hands b)))

  module _ (b : ℕ) where
    cut_not_handed : (i : ℕ) (h : Hand) → MayCut i h → h ≡ Handed → ⊥
    cut_not_handed i h may is = subst (MayCut i) is may

    -- what a block's hand is after another one changed hands
    elsewhere : (hand : ℕ → Hand) (c : ℕ) (new : Hand) → (hand c ≡ Handed → ⊥) → hand b ≡ Handed → with_at hand c new b ≡ Handed
    elsewhere hand c new not is = at_cases (λ (h : Hand). h ≡ Handed) hand c new b (λ e. absurd (not (ap hand (sym e) ∙ is))) (λ _. is)

    made_handed : (w : World T) → Reached defers size w → (i : ℕ) (value : T) (words : ℕ) (out : Out T) (m : Mem T) → Took w.memory (Make value words) out m → w.hand b ≡ Handed → (made_by defers w i m out).hand b ≡ Handed
    made_handed w r i value words (Made (Ok c)) m took is =
        at_cases (λ (h : Hand). h ≡ Handed) w.hand c (Making i) b (λ e. absurd (free (value_at w.memory b) refl (handed_there w r b is) e)) (λ _. is)
      where
        free : (o : Option T) → value_at w.memory b ≡ o → IsSome o → b ≡ c → ⊥
        free None at some e = absurd (cc some)
        free (Some x) at some e = new_apart w.memory b c x at took.0.0 e
    made_handed w r i value words (Made (Err back)) m took is = is
    made_handed w r i value words (Found word) m took is = is
    made_handed w r i value words Stored m took is = is
    made_handed w r i value words (Exchanged result) m took is = is
    made_handed w r i value words (Taken block) m took is = is
    made_handed w r i value words (Roomed result) m took is = is

    -- users leave with the collector what it has
    user_handed : (e : Event T) (w w2 : World T) → Reached defers size w → IsUsers e → Happens defers size e w w2 → w.hand b ≡ Handed → w2.hand b ≡ Handed
    user_handed (Begin i request) w w2 r u h is = absurd u
    user_handed (Step i) w w2 r u h is = absurd u
    user_handed (Makes i value words) w w2 r u h is = ap (λ (x : World T). x.hand b) h.4 ∙ made_handed w r i value words h.0 h.1 h.3 is
    user_handed (Drops i c) w w2 r u h is = ap (λ (x : World T). x.hand b) h.4 ∙ elsewhere w.hand c NoBlock (λ at. cc (at, h.2.1)) is
    user_handed (Links i c o) w w2 r u h is = ap (λ (x : World T). x.hand b) h.1 ∙ elsewhere w.hand c (InUse o) (λ at. cc (at, h.0.1)) is
    user_handed (Parts i c) w w2 r u h is = ap (λ (x : World T). x.hand b) h.1 ∙ elsewhere w.hand c (Parting i) (λ at. cc (at, h.0.1)) is
    user_handed (Unlinks i c) w w2 r u h is = ap (λ (x : World T). x.hand b) h.1 ∙ elsewhere w.hand c (Cutting i) (cut_not_handed i (w.hand c) h.0) is
    user_handed (Rewrites i c value) w w2 r u h is = ap (λ (x : World T). x.hand b) h.5 ∙ is
    user_handed (Operates op) w w2 r u h is = ap (λ (x : World T). x.hand b) h.4 ∙ is
    user_handed (Ends i o) w w2 r u h is = absurd u
    user_handed (LeavesOver i c further) w w2 r u h is = absurd u
    user_handed (Relinks i c word) w w2 r u h is = absurd u
    user_handed (Clears i c) w w2 r u h is = absurd u
    user_handed (Chooses choice) w w2 r u h is = ap (λ (x : World T). x.hand b) h ∙ is

    -- What users have then, they had, or the caller has made it: it links its own blocks, and none that is not out.
    back : (hand : ℕ → Hand) (c : ℕ) (new : Hand) → (b ≡ c → IsStillHad (hand c)) → IsStillHad (with_at hand c new b) → IsStillHad (hand b)
    back hand c new at is = at_cases (λ (h : Hand). IsStillHad h → IsStillHad (hand b)) hand c new b (λ e _. subst (λ (x : ℕ). IsStillHad (hand x)) (sym e) (at e)) (λ _ still. still) is

    gone_back : (hand : ℕ → Hand) (c : ℕ) (new : Hand) → (IsStillHad new → ⊥) → IsStillHad (with_at hand c new b) → IsStillHad (hand b)
    gone_back hand c new none is = at_cases (λ (h : Hand). IsStillHad h → IsStillHad (hand b)) hand c new b (λ e still. absurd (none still)) (λ _ still. still) is

    made_back : (w : World T) (i : ℕ) (m : Mem T) (out : Out T) → IsStillHad ((made_by defers w i m out).hand b) → IsStillHad (w.hand b)
    made_back w i m (Made (Ok c)) is = gone_back w.hand c (Making i) (λ none. none) is
    made_back w i m (Made (Err back)) is = is
    made_back w i m (Found word) is = is
    made_back w i m Stored is = is
    made_back w i m (Exchanged result) is = is
    made_back w i m (Taken block) is = is
    made_back w i m (Roomed result) is = is

    cut_still : (i : ℕ) (h : Hand) → MayCut i h → IsStillHad h
    cut_still i NoBlock may = absurd may
    cut_still i (Making j) may = absurd may
    cut_still i (InUse o) may = tt
    cut_still i (Parting j) may = tt
    cut_still i (Cutting j) may = absurd may
    cut_still i Handed may = absurd may
    cut_still i (LeftTo j) may = absurd may

-- Of what a step of a call does: what users have then they had, or its caller has made it.
module _ {K V : Type 0} (size : ℕ) (setting : Setting) (caller : ℕ) (w : World (Node K V)) (c : Chart K) (blocks : Blocks) (out : (b : ℕ) → IsKnownBlock c blocks b → IsOut (w.hand b)) (b : ℕ) where
  abbrev pub Origin : Type 0
  Origin = IsStillHad (w.hand b) ⊎ (w.hand b ≡ Making caller)

  by_out : (h : Hand) → w.hand b ≡ h → (w.hand b ≡ Handed → ⊥) → IsOut h → Origin
  by_out NoBlock e not is = absurd is
  by_out (Making i) e not is = absurd is
  by_out (InUse o) e not is = inl (subst IsStillHad (sym e) tt)
  by_out (Parting i) e not is = inl (subst IsStillHad (sym e) tt)
  by_out (Cutting i) e not is = inl (subst IsStillHad (sym e) tt)
  by_out Handed e not is = absurd (not e)
  by_out (LeftTo i) e not is = absurd is

  -- so far
  module _ (v : World (Node K V)) (handed : w.hand b ≡ Handed → v.hand b ≡ Handed) (so : IsStillHad (v.hand b) → Origin) where
    linked : (x h : ℕ) → IsIts caller w c blocks x → v.hand x ≡ Making h → b ≡ x → Origin
    linked x h (inl own) making e = inr (ap w.hand e ∙ own.0)
    linked x h (inr known) making e =
        by_out (w.hand b) refl (λ is. let a = handed is in let k : v.hand b ≡ Making h = ap v.hand e ∙ making in cc (a, k)) (subst (λ (y : ℕ). IsOut (w.hand y)) (sym e) (out x known))

    event_origin : (e : Event (Node K V)) (v2 : World (Node K V)) → IsItsEvent setting caller w c blocks e → Happens deferred_word size e v v2 → IsStillHad (v2.hand b) → Origin
    event_origin (Makes i value words) v2 its h is = so (made_back (deferred_word {K = K} {V = V}) size b v i h.1 h.0 (subst (λ (x : World (Node K V)). IsStillHad (x.hand b)) h.4 is))
    event_origin (Drops i x) v2 its h is = so (gone_back (deferred_word {K = K} {V = V}) size b v.hand x NoBlock (λ none. none) (subst (λ (y : World (Node K V)). IsStillHad (y.hand b)) h.4 is))
    event_origin (Links i x o) v2 its h is =
        at_cases (λ (k : Hand). IsStillHad k → Origin) v.hand x (InUse o) b (λ e _. linked x h.0.0 its.0 h.0.1 e) (λ _ still. so still) (subst (λ (y : World (Node K V)). IsStillHad (y.hand b)) h.1 is)
    event_origin (Parts i x) v2 its h is = so (back (deferred_word {K = K} {V = V}) size b v.hand x (Parting i) (λ e. subst IsStillHad (sym h.0.1) tt) (subst (λ (y : World (Node K V)). IsStillHad (y.hand b)) h.1 is))
    event_origin (Unlinks i x) v2 its h is = so (back (deferred_word {K = K} {V = V}) size b v.hand x (Cutting i) (λ e. cut_still (deferred_word {K = K} {V = V}) size b i (v.hand x) h.0) (subst (λ (y : World (Node K V)). IsStillHad (y.hand b)) h.1 is))
    event_origin (Rewrites i x value) v2 its h is = so (subst (λ (y : World (Node K V)). IsStillHad (y.hand b)) h.5 is)
    event_origin (Operates op) v2 its h is = so (subst (λ (y : World (Node K V)). IsStillHad (y.hand b)) h.4 is)
    event_origin (Chooses choice) v2 its h is = so (subst (λ (y : World (Node K V)). IsStillHad (y.hand b)) h is)
    event_origin _ v2 its h is = absurd its

  events_origin : (events : List (Event (Node K V))) (v w2 : World (Node K V)) → Reached deferred_word size v → AllUsers events → AllIts setting caller w c blocks events → Runs deferred_word size events v w2
      → (w.hand b ≡ Handed → v.hand b ≡ Handed) → (IsStillHad (v.hand b) → Origin) → IsStillHad (w2.hand b) → Origin
  events_origin [] v w2 r users its runs handed so is = so (subst (λ (y : World (Node K V)). IsStillHad (y.hand b)) runs is)
  events_origin (e ∷ events) v w2 r users its runs handed so is =
      events_origin events runs.0 w2 (happens_reached deferred_word size e v runs.0 r runs.1) users.1 its.1 runs.2
      (λ h. user_handed (deferred_word {K = K} {V = V}) size b e v runs.0 r users.0 runs.1 (handed h)) (event_origin v handed so e runs.0 its.0 runs.1) is

  pub step_origin : (events : List (Event (Node K V))) (w2 : World (Node K V)) → Reached deferred_word size w → AllUsers events → AllIts setting caller w c blocks events → Runs deferred_word size events w w2 → IsStillHad (w2.hand b) → Origin
  step_origin events w2 r users its runs is = events_origin events w w2 r users its runs (λ h. h) (λ still. inl still) is
