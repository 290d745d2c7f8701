-- A reservation that goes on is for as many further pairs as before.
use Rattle.std.specs.Prelude.{◌≡◌, ℕ, ◌^◌, ◌==◌, nat_lt, Bool, true, false, if◌then◌else◌}
use Rattle.std.proofs.Common.{refl}
use Rattle.run_finds.specs.Given.SeizeWordsOp.{Out, Found, Stored, Exchanged, Made, Taken, Roomed}
use Rattle.run_finds.specs.Given.SeizeWordsPlan.{plan_as}
use Rattle.run_finds.specs.Given.SeizeWordsDeclared.fault.Fault.TheVariants.{Capacity}
use Rattle.run_finds.specs.Given.SeizeDeclared.advance.Advance.{Advance as Counted}
use Rattle.run_finds.specs.Given.SeizeDeclared.advance.Advance.TheVariants as counted
use Rattle.run_finds.specs.Given.TablesDeclared.node.Node.{Node}
use Rattle.run_finds.specs.Given.TablesDeclared.table.Table.{Table}
use Rattle.run_finds.specs.Given.ResizeCopier.{copier_plan}
use Rattle.run_finds.specs.Given.ResizeNewTable.{new_table_plan}
use Rattle.run_finds.specs.Given.ResizeSum.{sum_plan}
use Rattle.run_finds.specs.Given.ResizeDeclared.copier.Copier.{Copier}
use Rattle.run_finds.specs.Given.ResizeDeclared.new_table.NewTable.{NewTable}
use Rattle.run_finds.specs.Given.ResizeDeclared.yielding.Yielding.{Yielding}
use Rattle.run_finds.specs.Given.ResizeDeclared.yielding.Yielding.TheVariants as outcome
use Rattle.run_finds.specs.Given.ResizeDeclared.sum.Sum.{Sum}
use Rattle.run_finds.specs.Given.ReservesReserve.{standing, refusing, enough, needed, summed, made, grown, copied, root_read, next_read, plan_at}
use Rattle.run_finds.specs.Given.ReservesDeclared.reserve.Reserve.{Reserve}
use Rattle.run_finds.specs.Given.ReservesDeclared.reserve.Reserving.{Reserving}
use Rattle.run_finds.specs.Given.ReservesDeclared.reserve.Reserving.TheVariants as at
use Rattle.run_finds.specs.Given.RawMachine.{reserved}
use Rattle.run_finds.specs.Given.RawDeclared.machines.machine.Machine.{Machine}
use Rattle.run_finds.specs.Given.RawDeclared.machines.machine.Machine.TheVariants as kinds
use Rattle.run_finds.specs.Given.RawDeclared.machines.progress.Progress.{Progress}
use Rattle.run_finds.proofs.Given.RuleKeys.Always.{Always, AlwaysOf, always_if, always_plan_as}
use Rattle.run_finds.specs.Given.EffectsDeclared.changed.Changed.TheVariants.{Nothing}
use Rattle.run_finds.proofs.Given.HistoriesAsking.{always_told, always_turned}
use Rattle.run_finds.specs.Given.ScenesHeld.{Held}
use Rattle.run_finds.specs.Given.ScenesStepping.{StepsFrom}

module _ (K V : Type 0) (p : Reserve) where
  abbrev Keeps : Reserve × Yielding (Node K V) Unit → Type 0
  Keeps (q, end) = q.additional ≡ p.additional

  enough_keeps : (table : Table) (need : ℕ) → Keeps (enough p table need)
  enough_keeps table need = by (nat_lt (2 ^ 48) need) (nat_lt table.len need)
    where
      by : (a b : Bool) → Keeps (if a then refusing p Capacity else (if b then (standing p (at.Follows table need), outcome.Goes) else (standing p at.Over, outcome.Done tt)))
      by true b = refl
      by false true = refl
      by false false = refl

  summed_keeps : (table : Table) (end : Sum × Counted ℕ) → Keeps (summed p table end)
  summed_keeps table (sum, counted.Goes) = refl
  summed_keeps table (sum, counted.Waits) = refl
  summed_keeps table (sum, counted.Done count) = enough_keeps table (needed p.additional count)
  summed_keeps table (sum, counted.Refused fault) = refl

  made_keeps : (end : NewTable × Counted Table) → Keeps (made p end)
  made_keeps (making, counted.Goes) = refl
  made_keeps (making, counted.Waits) = refl
  made_keeps (making, counted.Done table) = refl
  made_keeps (making, counted.Refused fault) = refl

  grown_keeps : (table : Table) (end : NewTable × Counted Table) → Keeps (grown p table end)
  grown_keeps table (making, counted.Goes) = refl
  grown_keeps table (making, counted.Waits) = refl
  grown_keeps table (making, counted.Done next) = refl
  grown_keeps table (making, counted.Refused fault) = refl

  copied_keeps : (end : Copier × Yielding (Node K V) Table) → Keeps (copied p end)
  copied_keeps (c, outcome.Goes) = refl
  copied_keeps (c, outcome.Waits) = refl
  copied_keeps (c, outcome.Gave value) = refl
  copied_keeps (c, outcome.Done root) = refl
  copied_keeps (c, outcome.Refused fault) = refl

  root_keeps : (out : Out (Node K V)) → Always Keeps (root_read p out)
  root_keeps (Found root) = always_if Keeps (root == 0) _ _ refl (λ value. refl)
  root_keeps Stored = refl
  root_keeps (Exchanged r) = refl
  root_keeps (Made r) = refl
  root_keeps (Taken value) = refl
  root_keeps (Roomed r) = refl

  next_keeps : (table : Table) (need : ℕ) (out : Out (Node K V)) → Always Keeps (next_read p table need out)
  next_keeps table need (Found link) = always_if Keeps (link == 0) _ _ refl (λ value. refl)
  next_keeps table need Stored = refl
  next_keeps table need (Exchanged r) = refl
  next_keeps table need (Made r) = refl
  next_keeps table need (Taken value) = refl
  next_keeps table need (Roomed r) = refl

  from : (hash : K → ℕ) (stands : Reserving) → AlwaysOf Keeps (plan_at hash p stands)
  from hash at.Reads = root_keeps
  from hash (at.Makes making) = always_plan_as Keeps (made p) made_keeps (new_table_plan making)
  from hash (at.Sums table sum) = always_plan_as Keeps (summed p table) (summed_keeps table) (sum_plan sum)
  from hash (at.Follows table need) = next_keeps table need
  from hash (at.Grows table making) = always_plan_as Keeps (grown p table) (grown_keeps table) (new_table_plan making)
  from hash (at.Copies copier) = always_plan_as Keeps (copied p) copied_keeps (copier_plan hash copier)
  from hash at.Over = refl
  from hash (at.Refused fault) = refl

-- a machine for a reservation, for so many further pairs
abbrev pub IsForRoom : {K V : Type 0} → ℕ → Machine K V K × Progress (Node K V) → Type 0
IsForRoom additional (kinds.Reserve q, said) = q.additional ≡ additional
IsForRoom additional (_, said) = ⊥

pub room_kept : {K V : Type 0} (same : K → K → Bool) (hash : K → ℕ) (old new : Held K V) (p : Reserve) (machine : Machine K V K) (said : Progress (Node K V))
    → StepsFrom same hash (kinds.Reserve p) old new machine said → IsForRoom p.additional (machine, said)
room_kept {K} {V} same hash old new p machine said steps =
    always_told (IsForRoom p.additional) old.memory new.memory Nothing new.changed (plan_as reserved (plan_at hash p p.stands)) (machine, said)
    (always_turned (Keeps K V p) (IsForRoom p.additional) reserved (λ end so. so) (plan_at hash p p.stands) (from K V p hash p.stands)) steps
