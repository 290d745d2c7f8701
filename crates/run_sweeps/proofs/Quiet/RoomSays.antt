-- For what a call on no key is refused: for room alone, at each of its steps, and one that counts never.
use Rattle.std.specs.Prelude.{ℕ, Bool}
use Rattle.std.proofs.Common.{sym, subst}
use Rattle.run_schedules.specs.Given.SeizeWordsMem.{Mem}
use Rattle.run_schedules.specs.Given.SeizeWordsPlan.{plan_as}
use Rattle.papaya_raw.specs.Given.SeizeDeclared.advance.Advance.{Advance as Counted}
use Rattle.papaya_raw.specs.Given.SeizeDeclared.advance.Advance.TheVariants as counts
use Rattle.run_finds.proofs.Given.SeizeRuleRows.Leaving.{steps_back}
use Rattle.papaya_raw.specs.Given.TablesDeclared.node.Node.{Node}
use Rattle.run_finds.specs.Given.ResizeSum.{sum_plan}
use Rattle.run_finds.specs.Given.ResizeDeclared.yielding.Yielding.{Yielding}
use Rattle.run_finds.specs.Given.ResizeDeclared.yielding.Yielding.TheVariants as outcome
use Rattle.run_finds.specs.Given.ResizeDeclared.sum.Sum.{Sum}
use Rattle.papaya_raw.specs.Given.ReservesReserve.{reserve_plan}
use Rattle.papaya_raw.specs.Given.ReservesDeclared.reserve.Reserve.{Reserve}
use Rattle.papaya_raw.specs.Given.SweepsSweep.{sweep_plan}
use Rattle.papaya_raw.specs.Given.ReservesDeclared.sweep.Sweep.{Sweep}
use Rattle.papaya_raw.specs.Given.ReservesDeclared.sweep.Swept.{Swept}
use Rattle.papaya_raw.specs.Given.ReservesDeclared.sweep.Swept.TheVariants as ends
use Rattle.papaya_raw.specs.Machine.{counted, reserved, swept}
use Rattle.papaya_raw.specs.Progress.{of_outcome, of_swept}
use Rattle.papaya_raw.specs.declared.machines.machine.Machine.{Machine}
use Rattle.papaya_raw.specs.declared.machines.machine.Machine.TheVariants as kinds
use Rattle.papaya_raw.specs.declared.machines.progress.Progress.{Progress}
use Rattle.papaya_raw.specs.declared.machines.progress.Progress.TheVariants as progress
use Rattle.run_finds.specs.Given.LateFaults.{IsRoom, RefusesRoom, RoomInReserving, RoomInSweeping, SweepRefusesRoom}
use Rattle.run_finds.proofs.Given.LateKindsKept.Laws.{reserves_refuse_room, sweeps_refuse_room}
use Rattle.run_finds.proofs.Given.LateKindsKept.Rooms.Making.{CountsOn, sum_counts}
use Rattle.run_finds.specs.Given.EffectsDeclared.changed.Changed.TheVariants.{Nothing}
use Rattle.run_finds.proofs.Given.HistoriesAsking.{always_told, always_turned}
use Rattle.run_finds.specs.Given.NamedMachines.{RefusedForRoom}
use Rattle.run_finds.proofs.Given.ScenesTold.{as_step}
use Rattle.run_finds.specs.Given.ScenesHeld.{Held}
use Rattle.run_finds.specs.Given.ScenesStepping.{StepsFrom}

module _ {K V : Type 0} where
  -- what it says is no refusal, or one for room
  abbrev pub SaysRoom : Progress (Node K V) → Type 0
  SaysRoom (progress.Refused fault) = IsRoom fault
  SaysRoom _ = Unit {0}

  outcome_room : (end : Yielding (Node K V) Unit) → RefusesRoom end → SaysRoom (of_outcome end)
  outcome_room outcome.Goes so = tt
  outcome_room outcome.Waits so = tt
  outcome_room (outcome.Gave value) so = tt
  outcome_room (outcome.Done end) so = tt
  outcome_room (outcome.Refused fault) so = so

  swept_room : (end : Swept (Node K V)) → SweepRefusesRoom end → SaysRoom (of_swept end)
  swept_room ends.Goes so = tt
  swept_room ends.Waits so = tt
  swept_room (ends.Gave value) so = tt
  swept_room ends.Ready so = tt
  swept_room (ends.Pair word) so = tt
  swept_room (ends.Asks word) so = tt
  swept_room ends.Done so = tt
  swept_room (ends.Refused fault) so = so

  abbrev RoomSo : Machine K V K × Progress (Node K V) → Type 0
  RoomSo (machine, said) = RefusedForRoom machine × SaysRoom said

  -- what it says is no refusal
  abbrev pub NeverRefused : Progress (Node K V) → Type 0
  NeverRefused (progress.Refused fault) = ⊥
  NeverRefused _ = Unit {0}

  abbrev CountSo : Machine K V K × Progress (Node K V) → Type 0
  CountSo (machine, said) = NeverRefused said

module _ (K V : Type 0) where
  counted_room : (end : Sum × Counted ℕ) → CountsOn end → CountSo (counted {K = K} {V = V} {Q = K} end)
  counted_room (sum, counts.Goes) so = tt
  counted_room (sum, counts.Waits) so = tt
  counted_room (sum, counts.Done count) so = tt
  counted_room (sum, counts.Refused fault) so = absurd so

module _ {K V : Type 0} (same : K → K → Bool) (hash : K → ℕ) (old new : Held K V) (machine : Machine K V K) (said : Progress (Node K V)) where
  abbrev m : Mem (Node K V)
  m = old.memory

  abbrev m2 : Mem (Node K V)
  m2 = new.memory

  pub reserve_room : (r : Reserve) → RoomInReserving r.stands → StepsFrom same hash (kinds.Reserve r) old new machine said → RefusedForRoom machine × SaysRoom said
  reserve_room r room steps =
      let d = steps_back reserved m m2 (reserve_plan hash r) (machine, said) (as_step m Nothing (plan_as reserved (reserve_plan hash r)) m2 new.changed (machine, said) steps) in
      let so = reserves_refuse_room hash r room m m2 d.0 d.1 in
      subst RoomSo (sym d.2) (so.0, outcome_room d.0.1 so.1)

  pub sweep_room : (c : Sweep) → RoomInSweeping c.stands → StepsFrom same hash (kinds.Sweep c) old new machine said → RefusedForRoom machine × SaysRoom said
  sweep_room c room steps =
      let d = steps_back swept m m2 (sweep_plan hash c) (machine, said) (as_step m Nothing (plan_as swept (sweep_plan hash c)) m2 new.changed (machine, said) steps) in
      let so = sweeps_refuse_room hash c room m m2 d.0 d.1 in
      subst RoomSo (sym d.2) (so.0, swept_room d.0.1 so.1)

  pub sum_room : (sum : Sum) → StepsFrom same hash (kinds.Count sum) old new machine said → NeverRefused said
  sum_room sum steps =
      always_told CountSo m m2 Nothing new.changed (plan_as counted (sum_plan sum)) (machine, said)
      (always_turned CountsOn CountSo counted (counted_room K V) (sum_plan sum) (sum_counts (Node K V) sum)) steps
