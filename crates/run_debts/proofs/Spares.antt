-- The steps of reservations and of sweeps write no root that names a table, but the exchange that promotes one.
use Rattle.std.specs.Prelude.{◌≡◌, ℕ, Bool, false}
use Rattle.std.proofs.Common.{refl, inl}
use Rattle.run_places.specs.Given.SeizeWordsPlan.{Plan, Turn, Do, plan_as}
use Rattle.run_places.specs.Given.TablesDeclared.node.Node.{Node}
use Rattle.run_places.specs.Given.TablesDeclared.setting.Setting.{Setting}
use Rattle.run_places.specs.Given.ResizeCopier.{plan_at as copier_plan_at}
use Rattle.run_places.specs.Given.ResizeDispose.{dispose_plan}
use Rattle.run_places.specs.Given.ResizeNewTable.{new_table_plan}
use Rattle.run_places.specs.Given.ResizeSum.{plan_at as sum_plan_at, sum_plan}
use Rattle.run_places.specs.Given.ResizeDeclared.dispose.Dispose.{Dispose}
use Rattle.run_places.specs.Given.ResizeDeclared.new_table.NewTable.{NewTable}
use Rattle.run_places.specs.Given.ResizeDeclared.sum.Sum.{Sum}
use Rattle.run_places.specs.Given.ResizeDeclared.sum.Summing.{Summing}
use Rattle.run_places.specs.Given.ResizeDeclared.sum.Summing.TheVariants as sums
use Rattle.run_places.specs.Given.ReservesReserve as reserves
use Rattle.run_places.specs.Given.ReservesDeclared.reserve.Reserve.{Reserve}
use Rattle.run_places.specs.Given.ReservesDeclared.reserve.Reserving.{Reserving}
use Rattle.run_places.specs.Given.ReservesDeclared.reserve.Reserving.TheVariants as reserving
use Rattle.run_places.specs.Given.SweepsSweep as sweeps
use Rattle.run_places.specs.Given.ReservesDeclared.sweep.Sweep.{Sweep}
use Rattle.run_places.specs.Given.ReservesDeclared.sweep.Sweeping.{Sweeping}
use Rattle.run_places.specs.Given.ReservesDeclared.sweep.Sweeping.TheVariants as sweeping
use Rattle.run_places.specs.Given.RawCall.{first_made, disposed}
use Rattle.run_places.specs.Given.RawCallPoints.{getting}
use Rattle.run_places.specs.Given.RawDeclared.machines.answer.KeyAnswer.TheVariants as answers
use Rattle.run_places.specs.Given.RawDeclared.machines.call.KeyCall.{KeyCall}
use Rattle.run_places.specs.Given.RawDeclared.machines.call.Calling.TheVariants as at
use Rattle.run_places.proofs.Given.RuleWorld.RootSpared.{PlanSparesRoot, spares_as}
use Rattle.owner_facts.specs.Given.PointsTold.{IsRowOf}
use Rattle.owner_facts.proofs.Given.PointsSteps.RootSteps.{is_promoting, spares_copier, spares_call}
use Rattle.owner_facts.specs.Given.LateToldReserves.{IsRowOfReserve}
use Rattle.owner_facts.specs.Given.LateToldSweeps.{IsRowOfSweep}

-- it is to exchange the root
abbrev pub room_is_promoting : Reserving → Bool
room_is_promoting (reserving.Copies copier) = is_promoting copier.stands
room_is_promoting _ = false

abbrev pub sweep_is_promoting : Sweeping → Bool
sweep_is_promoting (sweeping.Copies copier) = is_promoting copier.stands
sweep_is_promoting _ = false

-- what is within a plan spares them where that does
spares_within : {T A B : Type 0} (f : A → B) (plan : Plan T A) → PlanSparesRoot (plan_as f plan) → PlanSparesRoot plan
spares_within f (Turn rest) spares = tt
spares_within f (Do op rest) spares = spares

module _ (K V : Type 0) where
  -- any call on one key
  any : Setting → KeyCall K V Unit
  any setting = getting setting 0 tt

  spares_sum : (sum : Sum) (stands : Summing) → PlanSparesRoot (sum_plan_at {T = Node K V} sum stands)
  spares_sum sum (sums.Adds shard total) = tt
  spares_sum sum (sums.Over count) = tt

  spares_making : (new : NewTable) → PlanSparesRoot (new_table_plan {K = K} {V = V} new)
  spares_making new =
      spares_within (first_made (any new.setting)) (new_table_plan new) (spares_call (λ q k. false) (λ k l. false) (λ k. 0) (any new.setting) (at.Firsts new) refl (λ row. row))

  spares_dispose : (d : Dispose) → (IsRowOf d.stands → ⊥) → PlanSparesRoot (dispose_plan {K = K} {V = V} d)
  spares_dispose d row =
      spares_within (disposed (any d.setting) answers.Absent) (dispose_plan d) (spares_call (λ q k. false) (λ k l. false) (λ k. 0) (any d.setting) (at.Disposes d answers.Absent) refl row)

  module _ (hash : K → ℕ) where
    pub spares_room : (r : Reserve) (stands : Reserving) → room_is_promoting stands ≡ false → (IsRowOfReserve stands → ⊥) → PlanSparesRoot (reserves.plan_at {V = V} hash r stands)
    spares_room r reserving.Reads e row = tt
    spares_room r (reserving.Makes new) e row = spares_as (reserves.made r) (new_table_plan new) (spares_making new)
    spares_room r (reserving.Sums table sum) e row = spares_as (reserves.summed r table) (sum_plan sum) (spares_sum sum sum.stands)
    spares_room r (reserving.Follows table need) e row = tt
    spares_room r (reserving.Grows table new) e row = spares_as (reserves.grown r table) (new_table_plan new) (spares_making new)
    spares_room r (reserving.Copies copier) e row = spares_as (reserves.copied r) (copier_plan_at hash copier copier.stands) (spares_copier K V hash copier copier.stands e row)
    spares_room r reserving.Over e row = tt
    spares_room r (reserving.Refused fault) e row = tt

    pub spares_sweep : (c : Sweep) (stands : Sweeping) → sweep_is_promoting stands ≡ false → (IsRowOfSweep stands → ⊥) → PlanSparesRoot (sweeps.plan_at {V = V} hash c stands)
    spares_sweep c sweeping.Reads e row = tt
    spares_sweep c sweeping.Follows e row = tt
    spares_sweep c (sweeping.Copies copier) e row = spares_as (sweeps.copied c) (copier_plan_at hash copier copier.stands) (spares_copier K V hash copier copier.stands e row)
    spares_sweep c sweeping.Words e row = tt
    spares_sweep c (sweeping.Tries word) e row = inl tt
    spares_sweep c (sweeping.Counts removed) e row = tt
    spares_sweep c (sweeping.Disposes dispose) e row = spares_as (sweeps.disposed c) (dispose_plan dispose) (spares_dispose dispose row)
    spares_sweep c sweeping.Ready e row = tt
    spares_sweep c (sweeping.Asks word) e row = tt
    spares_sweep c sweeping.Over e row = tt
    spares_sweep c (sweeping.Refused fault) e row = tt
