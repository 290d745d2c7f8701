-- What a sweep knows where it stands, if it stands in no row, and what it is about to add where it goes on.
use Rattle.std.specs.Prelude.{◌≡◌, ℕ, Bool, Some, nat_lt, true, false, if◌then◌else◌}
use Rattle.std.proofs.Common.{subst, inl, inr}
use Rattle.papaya_raw.specs.Given.ReservesDeclared.sweep.Purpose.TheVariants.{Walks, Retains}
use Rattle.papaya_raw.specs.Given.ReservesDeclared.sweep.Sweeping.{Sweeping}
use Rattle.papaya_raw.specs.Given.ReservesDeclared.sweep.Sweeping.TheVariants as at
use Rattle.run_finds.specs.Given.LateFactsSweeps.{SweepingFacts}
use Rattle.run_finds.specs.Given.LateToldSweeps.{IsRowOfSweep}
use Rattle.run_finds.specs.Given.CallersOverAll.{CallOverAll}
use Rattle.run_finds.specs.Given.CallersSights.{seen_by}
use Rattle.run_finds.specs.Given.CallersTogether.{OverAll, IsAtPoint as TogetherStands, Together, in_slot}
use Rattle.run_finds.specs.Given.FinishesMaps.{Standing}
use Rattle.run_finds.specs.Given.ScenesScene.{Scene, slot_of}
use Rattle.run_finds.specs.Given.SweepsSweepPoints.{next_at}
use Rattle.run_finds.specs.Given.ReservesDeclared.sweep.Sweep.{Sweep}
use Rattle.run_kept.specs.Given.ShardsAdds.{adds_in_sweeping}

-- what a sweep knows where it stands, if it stands in no row
module _ {K V : Type 0} (same : K → K → Bool) (s : Scene K V) (map i : ℕ) (st : Standing K)
    (together : Together V same st.hash same st.setting slot_of s.world st.chart st.blocks st.sights (s.calls map)) (o : CallOverAll) (under : s.calls map i ≡ Some (OverAll o)) where
  abbrev pub Facts : Sweeping → Type 0
  Facts stands = SweepingFacts same st.hash s.world i (in_slot st.setting (slot_of i)) st.chart (seen_by st.blocks (st.sights (slot_of i))) o.began o.sweep stands

  pub knows_at : (stands : Sweeping) → (IsRowOfSweep stands → ⊥) → o.sweep.stands ≡ stands → Facts stands
  knows_at stands no_row is = by (together.stand i (OverAll o) under)
    where
      by : TogetherStands V same st.hash same st.setting slot_of s.world st.chart (seen_by st.blocks (st.sights (slot_of i))) i (OverAll o) → Facts stands
      by (inl (rests, knows)) = subst Facts is knows.facts.point
      by (inr (row, is_row, knows)) = absurd (no_row (subst IsRowOfSweep is is_row))

  pub retains_at : (word : ℕ) → o.sweep.stands ≡ at.Asks word → o.sweep.purpose ≡ Retains
  retains_at word is = (knows_at (at.Asks word) (λ row. row) is).0

  pub walks_at : o.sweep.stands ≡ at.Ready → o.sweep.purpose ≡ Walks
  walks_at is = (knows_at at.Ready (λ row. row) is).0

-- where one goes on otherwise, or is under way no more, what it is about to add is what it was
pub not_ready : (q : Bool) (removed : ℕ) → adds_in_sweeping (if q then at.Words else at.Over) ≡ Some removed → ⊥
not_ready true removed adds = absurd (cc adds)
not_ready false removed adds = absurd (cc adds)

pub adds_next : (p : Sweeping) (c : Sweep) (removed : ℕ) → c.stands ≡ p → adds_in_sweeping (next_at p c).stands ≡ Some removed → adds_in_sweeping c.stands ≡ Some removed
adds_next at.Ready c removed is adds = absurd (not_ready (nat_lt c.place c.table.len) removed adds)
adds_next _ c removed is adds = adds
