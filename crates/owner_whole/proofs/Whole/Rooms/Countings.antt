-- Whole countings for one owner: each begins alone, and may take each of its steps.
use Rattle.std.specs.Prelude.{◌≡◌, ◌≢◌, ℕ, Bool, Some, None}
use Rattle.std.proofs.Common.{inl, inr, refl, ap, ◌∙◌}
use Rattle.std.proofs.lemmas.Bool.{cases_eq}
use Rattle.seize.specs.World.{World, Rests, with_at}
use Rattle.seize.specs.declared.advance.Advance.{Advance}
use Rattle.seize_words.specs.declared.fault.Fault.{Fault}
use Rattle.seize.specs.declared.advance.Advance.TheVariants as progress
use Rattle.map_tables.specs.declared.node.Node.{Node}
use Rattle.map_tables.specs.declared.setting.Setting.{Setting}
use Rattle.map_measures.specs.Given.ResizeSum.{summing}
use Rattle.map_measures.specs.Given.ResizeDeclared.sum.Sum.{Sum}
use Rattle.map_measures.specs.Given.RuleChart.{Chart}
use Rattle.map_measures.specs.Given.RuleWords.{Blocks}
use Rattle.owner_facts.specs.Given.CallersSights.{Visible, seen_by}
use Rattle.owner_facts.specs.Given.CallersTogether.{Counting, next_of_counting, in_slot, IsAtPoint, Together}
use Rattle.owner_facts.proofs.Given.CallersTogether.At.{at_other, at_same}
use Rattle.owner_facts.proofs.Given.CallersTogether.Countings.{countings_begin_together, countings_stand_together}
use Rattle.owner_whole.specs.Whole.Owner.{IsOfRoot, IsQuiescent, IsAlone}
use Rattle.owner_facts.specs.Given.PointsFactsTables.{SumFacts}
use Rattle.owner_facts.proofs.Maps.Reserves.Sums.{Ahead, sum_ahead}
use Rattle.owner_whole.specs.Whole.WholeRooms.{CountLeads, HasOutcome, CountingsBeginAlone, CountingsContinueAlone}

module _ {K V Q : Type 0} (same : K → K → Bool) (hash : K → ℕ) (asks : Q → K → Bool) (setting : Setting) (slot : ℕ → ℕ) where
  -- what a counting knows is of no table
  of_none : (w : World (Node K V)) (c : Chart K) (seen : Blocks) (sum : Sum) (x : IsAtPoint V same hash asks setting slot w c seen 0 (Counting sum)) → IsOfRoot same hash asks setting slot w c seen (Counting sum) x
  of_none w c seen sum x = tt

  pub countings_begin_alone : CountingsBeginAlone V same hash asks setting slot
  countings_begin_alone w c blocks sights a =
      let it = summing (in_slot setting (slot 0)) in
      let together2 = countings_begin_together same hash asks setting slot w c blocks sights a.calls 0 a.together (a.none 0) (a.rows 0) in
      let has2 : with_at a.calls 0 (Some (Counting it)) 0 ≡ Some (Counting it) = at_same a.calls 0 (Some (Counting it)) 0 refl in
      record {
        calls = with_at a.calls 0 (Some (Counting it));
        has = has2;
        others = λ i other. at_other a.calls 0 (Some (Counting it)) i other ∙ a.none i;
        together = together2;
        rows = λ i other. a.rows i;
        inside = a.inside;
        lone = a.alone;
        of_root = of_none w c (seen_by blocks (sights (slot 0))) it (together2.stand 0 (Counting it) has2);
      }

  module _ (w : World (Node K V)) (c : Chart K) (blocks : Blocks) (sights : ℕ → Visible) (sum : Sum) (a : IsAlone {Q = Q} same hash asks setting slot w c blocks sights (Counting sum)) where
    rests : w.row 0 ≡ Rests
    rests = (a.together.stand 0 (Counting sum) a.has).0

    module _ (sum2 : Sum) (end : Advance ℕ) (together2 : Together V same hash asks setting slot w c blocks sights (with_at a.calls 0 (next_of_counting sum2 end))) where
      still : next_of_counting {K = K} {V = V} {Q = Q} sum2 end ≡ Some (Counting sum2) → IsAlone {Q = Q} same hash asks setting slot w c blocks sights (Counting sum2)
      still goes =
          let has2 : with_at a.calls 0 (next_of_counting sum2 end) 0 ≡ Some (Counting sum2) = at_same a.calls 0 (next_of_counting sum2 end) 0 refl ∙ goes in
          record {
            calls = with_at a.calls 0 (next_of_counting sum2 end);
            has = has2;
            others = λ i other. at_other a.calls 0 (next_of_counting sum2 end) i other ∙ a.others i other;
            together = together2;
            rows = a.rows;
            inside = a.inside;
            lone = a.lone;
            of_root = of_none w c (seen_by blocks (sights (slot 0))) sum2 (together2.stand 0 (Counting sum2) has2);
          }

      ended : next_of_counting {K = K} {V = V} {Q = Q} sum2 end ≡ None → IsQuiescent {Q = Q} same hash asks setting slot w c blocks sights
      ended ends = record {
        calls = with_at a.calls 0 (next_of_counting sum2 end);
        none = λ i. elim (cases_eq i 0) as (λ _. with_at a.calls 0 (next_of_counting sum2 end) i ≡ None) [
          | inl e ↦ at_same a.calls 0 (next_of_counting sum2 end) i e ∙ ends
          | inr other ↦ at_other a.calls 0 (next_of_counting sum2 end) i other ∙ a.others i other
        ];
        together = together2;
        rows = λ i. elim (cases_eq i 0) as (λ _. w.row i ≡ Rests) [
          | inl e ↦ ap w.row e ∙ rests
          | inr other ↦ a.rows i other
        ];
        inside = a.inside;
        alone = a.lone;
      }

      leads : (x : Advance ℕ) → end ≡ x → x ≢ progress.Waits → ((fault : Fault) → x ≢ progress.Refused fault) → CountLeads {V = V} {Q = Q} same hash asks setting slot w c blocks sights sum2 x
      leads progress.Goes is waits refused = still (ap (next_of_counting sum2) is)
      leads progress.Waits is waits refused = absurd (waits refl)
      leads (progress.Done count) is waits refused = ended (ap (next_of_counting sum2) is)
      leads (progress.Refused fault) is waits refused = absurd (refused fault refl)

  comes_to : (w : World (Node K V)) (sum : Sum) (facts : SumFacts (in_slot setting (slot 0)) sum) (sum2 : Sum) (end : Advance ℕ) → end ≢ progress.Waits → ((fault : Fault) → end ≢ progress.Refused fault)
      → Ahead (in_slot setting (slot 0)) w.memory sum facts.0 sum.stands (sum2, end) → HasOutcome setting w.memory sum (sum2, end)
  comes_to w sum facts sum2 progress.Goes waits refused ahead = ahead
  comes_to w sum facts sum2 progress.Waits waits refused ahead = waits refl
  comes_to w sum facts sum2 (progress.Done count) waits refused ahead = ahead
  comes_to w sum facts sum2 (progress.Refused fault) waits refused ahead = refused fault refl

  pub countings_go_on_alone : CountingsContinueAlone V same hash asks setting slot
  countings_go_on_alone w c blocks sights sum a =
      let law = countings_stand_together same hash asks setting slot w c blocks sights a.calls a.together 0 sum a.has in
      let facts = (a.together.stand 0 (Counting sum) a.has).1 in (
        law.0,
        λ m2 sum2 end st. let l = law.1 m2 sum2 end st in (
          l.0,
          comes_to w sum facts sum2 end l.1 l.2 (sum_ahead (in_slot setting (slot 0)) w.memory sum facts.0 facts.1 m2 (sum2, end) st),
          leads w c blocks sights sum a sum2 end l.3 end refl l.1 l.2,
        ),
      )
