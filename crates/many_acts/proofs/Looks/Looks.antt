-- Each block that a step of a call looks at is there; and at no row it is held for it.
use Rattle.std.specs.Prelude.{◌≡◌, ℕ, Bool, Option, Some, IsSome, ◌⊎◌}
use Rattle.std.specs.Int.{IsPowerOfTwo}
use Rattle.std.proofs.Common.{true, inl, inr}
use Rattle.run_shows.specs.Given.SeizeWordsMem.{Mem, Can, Took, value_at}
use Rattle.run_shows.specs.Given.SeizeWordsPlan.{May}
use Rattle.run_shows.proofs.Given.SeizeWordsPlans.{as_may}
use Rattle.run_shows.specs.Given.SeizeWorld.{World, IsInside}
use Rattle.run_shows.specs.Given.TablesDeclared.node.Node.{Node}
use Rattle.run_shows.specs.Given.ResizeSum.{sum_plan}
use Rattle.run_shows.specs.Given.ResizeDeclared.copier.Copying.{Copying}
use Rattle.run_shows.specs.Given.ResizeDeclared.copier.Copying.TheVariants as copies
use Rattle.run_shows.specs.Given.ResizeDeclared.dispose.Disposing.{Disposing}
use Rattle.run_shows.specs.Given.ResizeDeclared.dispose.Disposing.TheVariants as disposes
use Rattle.run_shows.specs.Given.ReservesReserve.{reserve_plan}
use Rattle.run_shows.specs.Given.ReservesDeclared.reserve.Reserving.{Reserving}
use Rattle.run_shows.specs.Given.ReservesDeclared.reserve.Reserving.TheVariants as reserving
use Rattle.run_shows.specs.Given.SweepsSweep.{sweep_plan}
use Rattle.run_shows.specs.Given.ReservesDeclared.sweep.Sweeping.{Sweeping}
use Rattle.run_shows.specs.Given.ReservesDeclared.sweep.Sweeping.TheVariants as sweeping
use Rattle.run_shows.specs.Given.RawCall.{call_plan}
use Rattle.run_shows.specs.Given.RawMachine as machines
use Rattle.run_shows.specs.Given.RawMachine.{machine_plan}
use Rattle.run_shows.specs.Given.RawDeclared.machines.call.Calling.{Calling}
use Rattle.run_shows.specs.Given.RawDeclared.machines.call.Calling.TheVariants as at
use Rattle.owner_facts.specs.Given.PointsSteps.{AreLawful}
use Rattle.owner_facts.specs.Given.PointsTold.{IsRowOf, IsRowOfCopier, IsRowOfCall}
use Rattle.owner_facts.specs.Given.LateToldReserves.{IsRowOfReserve}
use Rattle.owner_facts.specs.Given.LateToldSweeps.{IsRowOfSweep}
use Rattle.owner_facts.specs.Given.CallersTogether.{UnderWay, OnKey, ForRoom, Counting, OverAll, Together}
use Rattle.owner_facts.specs.Given.FinishesEndings.{Finishing, EndingsTogether}
use Rattle.owner_facts.specs.Given.FinishesMachines.{machine_of}
use Rattle.owner_facts.specs.Given.FinishesMakings.{Beginning}
use Rattle.owner_facts.specs.Given.FinishesMaps.{Standing}
use Rattle.owner_facts.proofs.Given.FinishesAmong.Machines.{machines_stand_among}
use Rattle.many_acts.specs.Looks.Blocks.{LooksAt, MayMake}
use Rattle.many_acts.specs.Looks.Looks.{IsAtRow, IsHeldFor, StepsLookAtWhatIsHeld}
use Rattle.many_acts.proofs.Looks.Held.{keep, held_for, may_key, may_room, may_sweep, keep_counter, counter_for, may_count}
use Rattle.many_acts.proofs.Looks.Restricted.{restricted, looks_kept}
use Rattle.many_acts.proofs.Looks.There.{blocks_there}
use Rattle.run_shows.proofs.Given.FinishesAmong.Machines.{Either as Decided}

copier_decided : (x : Copying) → Decided (IsRowOfCopier x)
copier_decided (copies.Retires settle rest) = inl tt
copier_decided _ = inr (λ row. row)

disposal_decided : (x : Disposing) → Decided (IsRowOf x)
disposal_decided (disposes.Settles settle) = inl tt
disposal_decided (disposes.Defers defer) = inl tt
disposal_decided _ = inr (λ row. row)

call_decided : (x : Calling) → Decided (IsRowOfCall x)
call_decided (at.Disposes dispose answer) = disposal_decided dispose.stands
call_decided (at.Helps copier goal) = copier_decided copier.stands
call_decided (at.Copies copier) = copier_decided copier.stands
call_decided _ = inr (λ row. row)

room_decided : (x : Reserving) → Decided (IsRowOfReserve x)
room_decided (reserving.Copies copier) = copier_decided copier.stands
room_decided _ = inr (λ row. row)

sweep_decided : (x : Sweeping) → Decided (IsRowOfSweep x)
sweep_decided (sweeping.Copies copier) = copier_decided copier.stands
sweep_decided (sweeping.Disposes dispose) = disposal_decided dispose.stands
sweep_decided _ = inr (λ row. row)

module _ {K Q : Type 0} (V : Type 0) (same : K → K → Bool) (asks : Q → K → Bool) (batch_size roots : ℕ) (slot : ℕ → ℕ) where
  module _ (w : World (Node K V)) (maps : ℕ → Option (Standing K)) (calls : ℕ → ℕ → Option (UnderWay K V Q)) (makers : ℕ → Option (Beginning K)) (enders : ℕ → Option (Finishing K V))
      (all : EndingsTogether V same asks batch_size roots slot w maps calls makers enders) (m : ℕ) (s : Standing K) (here : maps m ≡ Some s) (i : ℕ) where
    stands : Together V same s.hash asks s.setting slot w s.chart s.blocks s.sights (calls m)
    stands = all.makings.standing.each m s here

    lawful : AreLawful same s.hash
    lawful = (all.makings.standing.fit m s here).0

    initial : IsPowerOfTwo s.setting.initial
    initial = (all.makings.standing.fit m s here).1

    module _ (b : ℕ) (u : UnderWay K V Q) (has : calls m i ≡ Some u) (looks : LooksAt b w.memory (machine_plan asks same s.hash (machine_of u))) where
      abbrev Looks : Type 0
      Looks = (IsSome (value_at w.memory b) × (IsAtRow u ⊎ IsHeldFor w (slot i) i s.setting.counter b)) ⊎ MayMake b w.memory (machine_plan asks same s.hash (machine_of u))

      -- at a row
      at_row : IsAtRow u → Looks
      at_row row =
          elim (blocks_there _ _ w.memory (machine_plan asks same s.hash (machine_of u)) (machines_stand_among V same asks batch_size roots slot w maps calls makers enders all m s here i u has).0 b looks) as (λ _. Looks) [
            | inl is ↦ inl (is, inl row)
            | inr made ↦ inr made
          ]

      -- and at none, where what is kept is held for it
      at_none : (kept : ℕ → Bool) → (kept b ≡ true → IsHeldFor w (slot i) i s.setting.counter b) → May Can Took value_at (restricted kept w.memory) (machine_plan asks same s.hash (machine_of u)) → Looks
      at_none kept held may =
          elim (looks_kept kept w.memory (machine_plan asks same s.hash (machine_of u)) may b looks) as (λ _. Looks) [
            | inl is ↦ inl (is.1, inr (held is.0))
            | inr made ↦ inr made
          ]

    module _ (inside : IsInside (w.uses (slot i))) where
      abbrev kept_for : ℕ → Bool
      kept_for = keep same s.hash asks s.setting slot lawful initial w s.chart s.blocks s.sights (calls m) stands i inside

      kept_held : (b : ℕ) → kept_for b ≡ true → IsHeldFor w (slot i) i s.setting.counter b
      kept_held = held_for same s.hash asks s.setting slot lawful initial w s.chart s.blocks s.sights (calls m) stands i inside

      abbrev less : Mem (Node K V)
      less = restricted kept_for w.memory

    each : (b : ℕ) (u : UnderWay K V Q) (has : calls m i ≡ Some u) (looks : LooksAt b w.memory (machine_plan asks same s.hash (machine_of u))) → Looks b u has looks
    each b (OnKey u) has looks = elim (call_decided u.call.stands) as (λ _. Looks b (OnKey u) has looks) [
      | inl row ↦ at_row b (OnKey u) has looks row
      | inr none ↦ at_none b (OnKey u) has looks (kept_for (stands.inside i (OnKey u) has)) (kept_held (stands.inside i (OnKey u) has) b)
          (as_may machines.called Can Took value_at (less (stands.inside i (OnKey u) has)) (call_plan asks same s.hash u.call)
          (may_key same s.hash asks s.setting slot lawful initial w s.chart s.blocks s.sights (calls m) stands i (stands.inside i (OnKey u) has) u has none))
    ]
    each b (ForRoom r) has looks = elim (room_decided r.reserve.stands) as (λ _. Looks b (ForRoom r) has looks) [
      | inl row ↦ at_row b (ForRoom r) has looks row
      | inr none ↦ at_none b (ForRoom r) has looks (kept_for (stands.inside i (ForRoom r) has)) (kept_held (stands.inside i (ForRoom r) has) b)
          (as_may machines.reserved Can Took value_at (less (stands.inside i (ForRoom r) has)) (reserve_plan s.hash r.reserve)
          (may_room same s.hash asks s.setting slot lawful initial w s.chart s.blocks s.sights (calls m) stands i (stands.inside i (ForRoom r) has) r has none))
    ]
    each b (Counting sum) has looks =
        let kept = keep_counter same s.hash asks s.setting slot w s.chart s.blocks s.sights (calls m) stands i in
        at_none b (Counting sum) has looks kept (counter_for same s.hash asks s.setting slot w s.chart s.blocks s.sights (calls m) stands i b)
        (as_may machines.counted Can Took value_at (restricted kept w.memory) (sum_plan sum) (may_count same s.hash asks s.setting slot w s.chart s.blocks s.sights (calls m) stands i sum has))
    each b (OverAll o) has looks = elim (sweep_decided o.sweep.stands) as (λ _. Looks b (OverAll o) has looks) [
      | inl row ↦ at_row b (OverAll o) has looks row
      | inr none ↦ at_none b (OverAll o) has looks (kept_for (stands.inside i (OverAll o) has)) (kept_held (stands.inside i (OverAll o) has) b)
          (as_may machines.swept Can Took value_at (less (stands.inside i (OverAll o) has)) (sweep_plan s.hash o.sweep)
          (may_sweep same s.hash asks s.setting slot lawful initial w s.chart s.blocks s.sights (calls m) stands i (stands.inside i (OverAll o) has) o has none))
    ]

  pub steps_look : StepsLookAtWhatIsHeld V same asks batch_size roots slot
  steps_look w maps calls makers enders all m s here i u has b looks = each w maps calls makers enders all m s here i b u has looks
