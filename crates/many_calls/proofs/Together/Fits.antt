-- What holds of each caller of a map, that all stand together by it, and that it lasts over the steps of others.
use Rattle.many_calls.proofs.Since.PairsOn.{keeps_on, late_keeps_on}
use Rattle.many_calls.specs.Asked.{Asked}
use Rattle.many_calls.specs.AskedOnce.{AsksOnce}
use Rattle.many_calls.proofs.Asked.Others.{others_stay, told_on, late_told_on}
use Rattle.many_calls.proofs.Once.Stays.{once_on}
use Rattle.many_calls.specs.Pairs.{KeepsGiven}
use Rattle.many_calls.proofs.Since.Given.{given_as}
use Rattle.std.specs.Prelude.{◌≡◌, ◌≢◌, ℕ, Bool, false, List, Option, Some, None, ◌⊎◌}
use Rattle.std.proofs.Common.{◌∙◌, refl, ap, sym, subst, inl, inr, arith}
use Rattle.std.proofs.lemmas.Bool.{cases_eq}
use Rattle.seize_model.specs.Given.SeizeWorld.{World, Rests, Use, IsInside, IsOnto, with_at}
use Rattle.map_facts_late.specs.Given.RuleInWorld.{IsMapIn, Moved}
use Rattle.many_calls.specs.Rows.{once_over}
use Rattle.map_facts_late.specs.Given.ReservesDeclared.reserve.Reserve.{Reserve}
use Rattle.map_facts_late.specs.FactsReserves.{ReserveFacts}
use Rattle.map_facts_late.specs.LateReserves.{SupersededReserveFacts}
use Rattle.map_facts_late.proofs.Rooms.Lasts.Reserves.{reserves_on}
use Rattle.many_calls.specs.Rooms.{room_once_over}
use Rattle.map_facts_late.specs.Given.ReservesDeclared.sweep.Purpose.{Purpose}
use Rattle.map_facts_late.specs.Given.ReservesDeclared.sweep.Sweep.{Sweep}
use Rattle.map_facts_late.specs.Given.ReservesDeclared.sweep.Sweeping.{Sweeping}
use Rattle.map_facts_late.specs.Given.ReservesDeclared.sweep.Sweeping.TheVariants as at
use Rattle.map_facts_late.proofs.Swept.Covers.Kept.{names_on, kept_moved}
use Rattle.map_facts_late.proofs.Swept.Lasts.Sweeps.{knows_then}
use Rattle.many_calls.specs.OverAll.{Verdict, CallOverAll, sweep_once_over, TriesAsReplied}
use Rattle.many_calls.specs.Together.{OverAll, KnowsSweep, Counting, ForRoom, KnowsRoom, OnKey, CallOnKey, UnderWay, UnlessCounts, HasCall, PutsWithin, in_slot, StayFew, Knows, IsAtPoint, Ground, Together}
use Rattle.map_facts_late.specs.Given.TablesChunks.{is_incremental}
use Rattle.map_facts_late.specs.Given.TablesDeclared.node.Node.{Node}
use Rattle.map_facts_late.specs.Given.TablesDeclared.setting.Setting.{Setting}
use Rattle.map_facts_late.specs.Given.RawDeclared.machines.call.KeyCall.{KeyCall}
use Rattle.map_facts_late.specs.Given.RuleChart.{Chart}
use Rattle.map_facts_late.specs.Given.RuleWords.{Blocks}
use Rattle.map_facts_late.specs.Given.RuleMoments.{Moments}
use Rattle.map_facts_late.specs.Given.PointsFactsIdle.{IsIdle}
use Rattle.map_facts_late.specs.Given.PointsSteps.{AreLawful}
use Rattle.map_facts_late.proofs.Lasts.Copiers.{ClaimsStayFew}
use Rattle.many_calls.specs.Sights.{Visible, seen_by}
use Rattle.map_facts_late.specs.Given.PointsOthers.{OthersStep}
use Rattle.map_facts_late.specs.Given.RawDeclared.machines.answer.KeyAnswer.TheVariants as answers
use Rattle.many_calls.proofs.Since.Began.{since_on, so_since_on}
use Rattle.many_calls.proofs.Together.At.{at_other, at_same}
use Rattle.many_calls.proofs.Together.FactsOn.{idle_on, KnowsOfCall, call_knows_on}

-- what is asked of each call but a counting is so of it if it is so of any
pub unless_so : {K V Q : Type 0} {A : Type 0} (u : UnderWay K V Q) → A → UnlessCounts u A
unless_so (OnKey u) a = a
unless_so (ForRoom r) a = a
unless_so (Counting sum) a = tt
unless_so (OverAll o) a = a

pub unless_on : {K V Q : Type 0} {A B : Type 0} (u : UnderWay K V Q) → (A → B) → UnlessCounts u A → UnlessCounts u B
unless_on (OnKey u) on a = on a
unless_on (ForRoom r) on a = on a
unless_on (Counting sum) on a = tt
unless_on (OverAll o) on a = on a

pub unless_both : {K V Q : Type 0} {A B C : Type 0} (u : UnderWay K V Q) → (A → B → C) → UnlessCounts u A → UnlessCounts u B → UnlessCounts u C
unless_both (OnKey u) on a b = on a b
unless_both (ForRoom r) on a b = on a b
unless_both (Counting sum) on a b = tt
unless_both (OverAll o) on a b = on a b

module _ {K V : Type 0} (same : K → K → Bool) (hash : K → ℕ) (setting : Setting) (w : World (Node K V)) (c : Chart K) (blocks : Blocks) where
  -- a map says nothing of its callers' slots
  pub map_in_slot : (slot : ℕ) → IsMapIn same hash setting w c blocks → IsMapIn same hash (in_slot setting slot) w c blocks
  map_in_slot slot m = record {
    map = record { rule = m.map.rule; shows = m.map.shows; later = m.map.later };
    counter = m.counter;
    shards = m.shards;
    tables = m.tables;
    pairs = m.pairs;
    named = m.named;
    tables_out = m.tables_out;
    pairs_out = m.pairs_out;
  }

-- nor of any one slot
pub map_of_slot : {K V : Type 0} (same : K → K → Bool) (hash : K → ℕ) (setting : Setting) (w : World (Node K V)) (c : Chart K) (blocks : Blocks) (slot : ℕ) → IsMapIn same hash (in_slot setting slot) w c blocks
    → IsMapIn same hash setting w c blocks
map_of_slot same hash setting w c blocks slot m = map_in_slot same hash (in_slot setting slot) w c blocks setting.slot m

module _ {K V Q : Type 0} (same : K → K → Bool) (hash : K → ℕ) (asks : Q → K → Bool) (setting : Setting) (slot : ℕ → ℕ) where
  abbrev Stand : World (Node K V) → Chart K → Blocks → (ℕ → Visible) → (ℕ → Option (UnderWay K V Q)) → Type 0
  Stand = Together V same hash asks setting slot

  -- what holds of a caller, by whether it has a call
  pub record Fits (w : World (Node K V)) (c : Chart K) (blocks : Blocks) (sight : Visible) (i : ℕ) (it : Option (UnderWay K V Q)) : Type 0 where
    pub inside : (u : UnderWay K V Q) → it ≡ Some u → UnlessCounts u (IsInside (w.uses (slot i)))
    pub stand : (u : UnderWay K V Q) → it ≡ Some u → IsAtPoint V same hash asks setting slot w c (seen_by blocks sight) i u
    pub idle : it ≡ None → IsIdle same hash w i (in_slot setting (slot i)) c blocks

  pub fits_some : (w : World (Node K V)) (c : Chart K) (blocks : Blocks) (sight : Visible) (i : ℕ) (u : UnderWay K V Q) → UnlessCounts u (IsInside (w.uses (slot i)))
      → IsAtPoint V same hash asks setting slot w c (seen_by blocks sight) i u → Fits w c blocks sight i (Some u)
  fits_some w c blocks sight i u inside stands = record {
    inside = λ v e. subst (λ (x : UnderWay K V Q). UnlessCounts x (IsInside (w.uses (slot i)))) (one u v e) inside;
    stand = λ v e. subst (IsAtPoint V same hash asks setting slot w c (seen_by blocks sight) i) (one u v e) stands;
    idle = λ e. absurd (cc e);
  }
    where
      one : (u v : UnderWay K V Q) → Some u ≡ Some v → u ≡ v
      one u v e = cc e

  pub fits_none : (w : World (Node K V)) (c : Chart K) (blocks : Blocks) (sight : Visible) (i : ℕ) → IsIdle same hash w i (in_slot setting (slot i)) c blocks → Fits w c blocks sight i None
  fits_none w c blocks sight i idle = record { inside = λ v e. absurd (cc e); stand = λ v e. absurd (cc e); idle = λ e. idle }

  pub fits_of : (w : World (Node K V)) (c : Chart K) (blocks : Blocks) (sights : ℕ → Visible) (calls : ℕ → Option (UnderWay K V Q)) → Stand w c blocks sights calls
      → (j : ℕ) → Fits w c blocks (sights (slot j)) j (calls j)
  fits_of w c blocks sights calls s j = record { inside = s.inside j; stand = s.stand j; idle = s.idle j }

  -- the caller's own is told, and what holds of all others
  pub stands_by : (w : World (Node K V)) (c : Chart K) (blocks : Blocks) (sights : ℕ → Visible) (calls : ℕ → Option (UnderWay K V Q)) (i : ℕ) (it : Option (UnderWay K V Q))
      → Ground V same hash asks setting slot w c blocks sights → Fits w c blocks (sights (slot i)) i it → ((j : ℕ) → j ≢ i → Fits w c blocks (sights (slot j)) j (calls j))
      → (is_incremental setting.mode ≡ false → StayFew (with_at calls i it) c) → PutsWithin calls w c blocks → (it ≡ None → w.row i ≡ Rests) → Stand w c blocks sights (with_at calls i it)
  stands_by w c blocks sights calls i it ground mine others few puts rests = record {
    ground = ground;
    inside = λ j. (fits j (cases_eq j i)).inside;
    stand = λ j. (fits j (cases_eq j i)).stand;
    idle = λ j. (fits j (cases_eq j i)).idle;
    onto = λ t j l made on. has_one t j (puts t j l made on) on (cases_eq j i);
    few = few;
  }
    where
      -- who has no call has no row under way
      has_one : (t j : ℕ) → HasCall calls j → IsOnto (blocks.table t) (w.row j) → (j ≡ i) ⊎ (j ≢ i) → HasCall (with_at calls i it) j
      has_one t j has on (inl e) none = subst (IsOnto (blocks.table t)) (ap w.row e ∙ rests (sym (at_same calls i it j e) ∙ none)) on
      has_one t j has on (inr ne) none = has (sym (at_other calls i it j ne) ∙ none)

      fits : (j : ℕ) → (j ≡ i) ⊎ (j ≢ i) → Fits w c blocks (sights (slot j)) j (with_at calls i it j)
      fits j (inl e) = subst (Fits w c blocks (sights (slot j)) j) (sym (at_same calls i it j e)) (subst (λ (x : ℕ). Fits w c blocks (sights (slot x)) x it) (sym e) mine)
      fits j (inr ne) = subst (Fits w c blocks (sights (slot j)) j) (sym (at_other calls i it j ne)) (others j ne)

  -- It knows of its call what it knew, if it does so by what its section sees: a counting only needs its row, and to have no part in a copying.
  pub stands_of : (how : Use) (j : ℕ) (w w2 : World (Node K V)) (c c2 : Chart K) (blocks blocks2 : Blocks) (sight sight2 : Visible) → w2.row j ≡ w.row j
      → (IsIdle same hash w j (in_slot setting (slot j)) c blocks → IsIdle same hash w2 j (in_slot setting (slot j)) c2 blocks2) → (u : UnderWay K V Q) → UnlessCounts u (IsInside how)
      → (IsInside how → IsAtPoint V same hash asks setting slot w c (seen_by blocks sight) j u → IsAtPoint V same hash asks setting slot w2 c2 (seen_by blocks2 sight2) j u)
      → IsAtPoint V same hash asks setting slot w c (seen_by blocks sight) j u → IsAtPoint V same hash asks setting slot w2 c2 (seen_by blocks2 sight2) j u
  stands_of how j w w2 c c2 blocks blocks2 sight sight2 row idle (OnKey u) is by stands = by is stands
  stands_of how j w w2 c c2 blocks blocks2 sight sight2 row idle (ForRoom r) is by stands = by is stands
  stands_of how j w w2 c c2 blocks blocks2 sight sight2 row idle (Counting sum) is by (rests, facts, had) = (row ∙ rests, facts, idle had)
  stands_of how j w w2 c c2 blocks blocks2 sight sight2 row idle (OverAll o) is by stands = by is stands

  -- what a caller knows of its call it knows on, over a step of another one
  module _ (lawful : AreLawful same hash) (j : ℕ) (w w2 : World (Node K V)) (c c2 : Chart K) (seen seen2 : Blocks) where
    abbrev its : Setting
    its = in_slot setting (slot j)

    module _ (map : IsMapIn same hash (in_slot setting (slot j)) w c seen) (map2 : IsMapIn same hash (in_slot setting (slot j)) w2 c2 seen2) (moments : Moments (is_incremental setting.mode) c)
        (step : OthersStep same hash (in_slot setting (slot j)) j w c seen w2 c2 seen2) (few : is_incremental setting.mode ≡ false → ClaimsStayFew c c2) where
      once_on_others : (u : CallOnKey K V Q) (p : KeyCall K V Q) (key : Option K) (asked : List (Asked V)) → AsksOnce hash c seen u.keys asked key p.replies p.stands → AsksOnce hash c2 seen2 u.keys asked key p.replies p.stands
      once_on_others u p key asked =
          once_on hash w.memory w2.memory c c2 seen seen2 u.keys asked (others_stay same hash asks its j w w2 c c2 seen seen2 step u.keys key asked u.change p) step.leaves.gone key p.replies p.stands

      its_pair_on : (u : CallOnKey K V Q) (p : KeyCall K V Q) → KnowsOfCall same hash asks (in_slot setting (slot j)) j w c seen u.keys u.began u.change p
          → KeepsGiven hash w.memory c seen u.keys u.pair u.change p p.stands → KeepsGiven hash w2.memory c2 seen2 u.keys u.pair u.change p p.stands
      its_pair_on u p (inl fresh) =
          given_as hash u.keys w.memory w2.memory c c2 seen seen2 u.pair u.change u.change p p p.stands p.stands (λ never. never)
          (λ pair never. keeps_on same hash asks its j w w2 c c2 seen seen2 step u.keys pair u.change p fresh never)
          (λ key asked h. (told_on same hash asks its j w w2 c c2 seen seen2 step u.keys key asked u.change p fresh h.0, once_on_others u p key asked h.1)) (λ kind fit. fit)
      its_pair_on u p (inr late) =
          given_as hash u.keys w.memory w2.memory c c2 seen seen2 u.pair u.change u.change p p p.stands p.stands (λ never. never)
          (λ pair never. late_keeps_on same hash asks its j w w2 c c2 seen seen2 step u.keys pair u.change p u.began late.1 never)
          (λ key asked h. (late_told_on same hash asks its j w w2 c c2 seen seen2 step u.keys key asked u.change p u.began late.1 h.0, once_on_others u p key asked h.1)) (λ kind fit. fit)

      pub knows_on : (u : CallOnKey K V Q) (p : KeyCall K V Q) → Knows V same hash asks setting slot w c seen j u p → Knows V same hash asks setting slot w2 c2 seen2 j u p
      knows_on u p k = record {
        facts = call_knows_on same hash asks its j lawful w w2 c c2 seen seen2 map map2 moments step few u.keys u.began k.since.began_before u.change p k.facts;
        since = since_on hash (is_incremental setting.mode) c c2 seen seen2 step.leaves.remembers step.leaves.lasts.stored step.leaves.lasts.keys step.pairs u.keys u.began u.change p.stands k.since;
        pair = its_pair_on u p k.facts k.pair;
        none = λ removes. so_since_on hash (is_incremental setting.mode) c c2 seen seen2 step.leaves.remembers step.leaves.lasts.stored step.leaves.lasts.keys step.pairs u.keys u.began answers.Absent
            (k.none removes);
      }

      -- and of its reservation
      pub knows_room_on : (began : ℕ) (p : Reserve) → KnowsRoom V same hash asks setting slot w c seen j began p → KnowsRoom V same hash asks setting slot w2 c2 seen2 j began p
      knows_room_on began p k =
          record {
            facts = by (reserves_on V same hash lawful its j w w2 c c2 seen seen2 map map2 moments step few began k.began_before p) k.facts;
            began_before = (let l = k.began_before in let n = step.leaves.remembers.now in omega (arith, l, n));
          }
        where
          by : (ReserveFacts same hash w j its c seen p → ReserveFacts same hash w2 j its c2 seen2 p ⊎ SupersededReserveFacts same hash w2 j its c2 seen2 began p)
              × (SupersededReserveFacts same hash w j its c seen began p → SupersededReserveFacts same hash w2 j its c2 seen2 began p)
              → ReserveFacts same hash w j its c seen p ⊎ SupersededReserveFacts same hash w j its c seen began p
              → ReserveFacts same hash w2 j its c2 seen2 p ⊎ SupersededReserveFacts same hash w2 j its c2 seen2 began p
          by on (inl fresh) = on.0 fresh
          by on (inr late) = inr (on.1 late)

      -- where a move was made at most, whoever made it
      module _ (who : ℕ) (moved : Moved same hash setting.mode who c c2) where
        tries_on : (told : Option Verdict) (purpose : Purpose) (stage : Sweeping) → TriesAsReplied hash c seen told purpose stage → TriesAsReplied hash c2 seen2 told purpose stage
        tries_on told purpose (at.Tries word) h = λ retains.
            let n = h retains in (n.0, names_on hash c c2 seen seen2 step.leaves.lasts.stored step.leaves.lasts.keys step.pairs word n.0 n.1, n.2)
        tries_on told purpose _ h = h

        -- and of its sweep
        pub knows_sweep_on : (o : CallOverAll) (p : Sweep) → KnowsSweep V same hash asks setting slot w c seen j o p → KnowsSweep V same hash asks setting slot w2 c2 seen2 j o p
        knows_sweep_on o p k = record {
          facts = knows_then same hash lawful its j w w2 c c2 seen seen2 map map2 moments step few o.began k.began_before p k.facts;
          began_before = (let l = k.began_before in let n = step.leaves.remembers.now in omega (arith, l, n));
          from = k.from;
          covers = kept_moved same hash lawful.lawful its w j c seen o.began p map moments o.entered o.done c2 seen2 moved step.pairs k.facts k.covers;
          tries = tries_on o.told p.purpose p.stands k.tries;
        }

        pub stands_on : w2.row j ≡ w.row j → (u : UnderWay K V Q) → IsAtPoint V same hash asks setting slot w c seen j u → IsAtPoint V same hash asks setting slot w2 c2 seen2 j u
        stands_on row (OnKey u) (inl (rests, k)) = inl (row ∙ rests, knows_on u u.call k)
        stands_on row (OnKey u) (inr (here, is_row, k)) = inr (row ∙ here, is_row, knows_on u (once_over u.call) k)
        stands_on row (ForRoom r) (inl (rests, k)) = inl (row ∙ rests, knows_room_on r.began r.reserve k)
        stands_on row (ForRoom r) (inr (here, is_row, k)) = inr (row ∙ here, is_row, knows_room_on r.began (room_once_over r.reserve) k)
        stands_on row (Counting sum) (rests, facts, idle) = (row ∙ rests, facts, idle_on same hash asks its j lawful w w2 c c2 seen seen2 map map2 moments step few idle)
        stands_on row (OverAll o) (inl (rests, k)) = inl (row ∙ rests, knows_sweep_on o o.sweep k)
        stands_on row (OverAll o) (inr (here, is_row, k)) = inr (row ∙ here, is_row, knows_sweep_on o (sweep_once_over o.sweep) k)
