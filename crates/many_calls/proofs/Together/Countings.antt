-- A counting of the pairs among the calls on its map: it begins, and takes its steps, each of which changes nothing.
use Rattle.std.specs.Prelude.{◌≡◌, ◌≢◌, ◌⊎◌, ℕ, Option, Some, None, Bool}
use Rattle.std.proofs.Common.{refl, arith, inl, inr, ◌≤◌}
use Rattle.seize_model.specs.Given.SeizeWordsDeclared.fault.Fault.{Fault}
use Rattle.seize_model.specs.Given.SeizeWorld.{World, Rests, with_at}
use Rattle.seize_model.specs.Given.SeizeDeclared.advance.Advance.{Advance}
use Rattle.seize_model.specs.Given.SeizeDeclared.advance.Advance.TheVariants as progress
use Rattle.map_facts_late.specs.Given.TablesDeclared.node.Node.{Node}
use Rattle.map_facts_late.specs.Given.TablesDeclared.setting.Setting.{Setting}
use Rattle.map_facts_late.specs.Given.ResizeSum.{summing}
use Rattle.map_facts_late.specs.Given.ResizeDeclared.sum.Sum.{Sum}
use Rattle.map_facts_late.specs.Given.RuleChart.{Chart}
use Rattle.map_facts_late.specs.Given.RuleWords.{Blocks}
use Rattle.map_facts_late.proofs.Given.RuleWorld.WentWrote.{counter_of}
use Rattle.map_facts_late.specs.Given.PointsFactsIdle.{IsIdle}
use Rattle.map_facts_late.specs.Given.PointsFactsTables.{SumFacts}
use Rattle.map_facts_late.specs.Given.PointsTold.{SumOutcome}
use Rattle.map_facts_late.proofs.Given.PointsMaking.Sum.{may_sum, told_sum}
use Rattle.many_calls.specs.Sights.{Visible, seen_by}
use Rattle.many_calls.specs.Together.{UnderWay, Counting, MayWrite, IsWriter, FewWith, StayFew, next_of_counting, in_slot, Together, CountingsBeginTogether, CountingsPreserveTheInvariant}
use Rattle.many_calls.proofs.Together.Few.{fewer, few_begun, few_with, few_without}
use Rattle.many_calls.proofs.Together.Fits.{map_in_slot, fits_some, fits_none, fits_of, stands_by}

module _ {K V Q : Type 0} (same : K → K → Bool) (hash : K → ℕ) (asks : Q → K → Bool) (setting : Setting) (slot : ℕ → ℕ) where
  pub countings_begin_together : CountingsBeginTogether V same hash asks setting slot
  countings_begin_together w c blocks sights calls i s none rests =
      stands_by same hash asks setting slot w c blocks sights calls i (Some (Counting it)) s.ground
      (fits_some same hash asks setting slot w c blocks (sights (slot i)) i (Counting it) tt (rests, (refl, (let e : 0 ≤ setting.mask = omega arith in e)), s.idle i none))
      (λ j other. fits_of same hash asks setting slot w c blocks sights calls s j)
      (λ blocking. few_begun calls i (Counting it) c (s.few blocking) (λ t claims. claims) (none_more (s.few blocking))) s.onto (λ none. absurd (cc none))
    where
      it : Sum
      it = summing (in_slot setting (slot i))

      -- a counting is none of them
      none_more : StayFew calls c → FewWith calls i (Counting it)
      none_more stay = fewer (IsWriter calls) (λ j. ((j ≡ i) × MayWrite {K = K} {V = V} {Q = Q} (Counting it)) ⊎ IsWriter calls j) stay.few (λ j such. elim such as (λ _. IsWriter calls j) [
        | inl its ↦ absurd its.1
        | inr has ↦ has
      ])

  module _ (w : World (Node K V)) (c : Chart K) (blocks : Blocks) (sights : ℕ → Visible) (calls : ℕ → Option (UnderWay K V Q)) (s : Together V same hash asks setting slot w c blocks sights calls)
      (i : ℕ) (sum : Sum) (has : calls i ≡ Some (Counting sum)) where
    abbrev its : Setting
    its = in_slot setting (slot i)

    rests : w.row i ≡ Rests
    rests = (s.stand i (Counting sum) has).0

    idle : IsIdle same hash w i its c (seen_by blocks (sights (slot i)))
    idle = (s.stand i (Counting sum) has).2

    goes_on : (sum2 : Sum) → SumFacts its sum2 → Together V same hash asks setting slot w c blocks sights (with_at calls i (Some (Counting sum2)))
    goes_on sum2 facts =
        stands_by same hash asks setting slot w c blocks sights calls i (Some (Counting sum2)) s.ground
        (fits_some same hash asks setting slot w c blocks (sights (slot i)) i (Counting sum2) (s.inside i (Counting sum) has) (rests, facts, idle))
        (λ j other. fits_of same hash asks setting slot w c blocks sights calls s j)
        (λ blocking. few_with calls i c (s.few blocking) (Counting sum2) (λ writes. absurd writes) (λ t claims. claims)) s.onto (λ none. absurd (cc none))

    ends : Together V same hash asks setting slot w c blocks sights (with_at calls i None)
    ends =
        stands_by same hash asks setting slot w c blocks sights calls i None s.ground (fits_none same hash asks setting slot w c blocks (sights (slot i)) i idle)
        (λ j other. fits_of same hash asks setting slot w c blocks sights calls s j)
        (λ blocking. few_without calls i c (s.few blocking)) s.onto (λ none. rests)

    abbrev Then : Sum × Advance ℕ → Type 0
    Then end = (end.1 ≢ progress.Waits) × ((fault : Fault) → end.1 ≢ progress.Refused fault) × Together V same hash asks setting slot w c blocks sights (with_at calls i (next_of_counting end.0 end.1))

    told_then : (end : Sum × Advance ℕ) → SumOutcome its end → Then end
    told_then (sum2, progress.Goes) facts = (λ e. cc e, λ fault e. cc e, goes_on sum2 facts)
    told_then (sum2, progress.Waits) never = absurd never
    told_then (sum2, progress.Done count) over = (λ e. cc e, λ fault e. cc e, ends)
    told_then (sum2, progress.Refused fault) never = absurd never

  pub countings_stand_together : CountingsPreserveTheInvariant V same hash asks setting slot
  countings_stand_together w c blocks sights calls s i sum has =
      let counter = counter_of same hash (in_slot setting (slot i)) w c blocks (map_in_slot same hash setting w c blocks (slot i) s.ground.map) in
      let facts = (s.stand i (Counting sum) has).1 in (
        may_sum (in_slot setting (slot i)) w.memory counter sum facts,
        λ m2 sum2 end steps.
            let d = told_sum (in_slot setting (slot i)) w.memory counter sum facts m2 (sum2, end) steps in
            let t = told_then w c blocks sights calls s i sum has (sum2, end) d.1 in
            (d.0, t.0, t.1, t.2),
      )
