-- A step of a reservation that stands within no copier: where it begins to copy, its copier has not found each place claimed.
use Rattle.std.specs.Prelude.{if◌then◌else◌, ◌==◌, nat_lt, ◌^◌, None}
use Rattle.std.proofs.Common.{◌≡◌, ℕ, Bool, true, false}
use Rattle.seize_words.specs.OneMemory.Mem.{Mem, Took, value_at}
use Rattle.seize_words.specs.OneMemory.Op.{Out, Found}
use Rattle.seize_words.specs.OneMemory.Plan.{Steps}
use Rattle.seize_words.specs.declared.fault.Fault.TheVariants.{Capacity}
use Rattle.seize.specs.declared.advance.Advance.{Advance}
use Rattle.seize.specs.declared.advance.Advance.TheVariants as progress
use Rattle.map_tables.specs.declared.node.Node.{Node}
use Rattle.map_tables.specs.declared.table.Table.{Table}
use Rattle.map_machines.specs.NewTable.{new_table_plan}
use Rattle.map_machines.specs.Sum.{sum_plan}
use Rattle.map_machines.specs.declared.new_table.NewTable.{NewTable}
use Rattle.map_machines.specs.declared.yielding.Yielding.{Yielding}
use Rattle.map_machines.specs.declared.yielding.Yielding.TheVariants as outcome
use Rattle.map_machines.specs.declared.sum.Sum.{Sum}
use Rattle.map_sweeps.specs.Reserves.Reserve.{standing, refusing, enough, summed, made, grown, needed, root_read, next_read, plan_at, reserve_plan}
use Rattle.map_sweeps.specs.declared.reserve.Reserve.{Reserve}
use Rattle.map_sweeps.specs.declared.reserve.Reserving.{Reserving}
use Rattle.map_sweeps.specs.declared.reserve.Reserving.TheVariants as reserves
use Rattle.many_calls.proofs.Given.RuleKeys.Always.{Always, AlwaysOf, always_if, always_plan_as, always_steps}
use Rattle.map_measures.specs.Waits.Others.{copier_in_room}
use Rattle.map_measures.proofs.Waiters.Begins.{IsNew, as_none, begun_new}

-- a reservation
abbrev pub IsNewRoom : Reserving → Type 0
IsNewRoom stands = IsNew (copier_in_room stands)

module _ {K V : Type 0} where
  abbrev pub NewRoom : Reserve × Yielding (Node K V) Unit → Type 0
  NewRoom end = IsNewRoom end.0.stands

module _ (K V : Type 0) (hash : K → ℕ) (p : Reserve) (here : IsNewRoom p.stands) where
  made_new : (end : NewTable × Advance Table) → NewRoom (made {K = K} {V = V} p end)
  made_new (making, progress.Goes) = tt
  made_new (making, progress.Waits) = tt
  made_new (making, progress.Done table) = tt
  made_new (making, progress.Refused fault) = tt

  grown_new : (table : Table) (end : NewTable × Advance Table) → NewRoom (grown {K = K} {V = V} p table end)
  grown_new table (making, progress.Goes) = tt
  grown_new table (making, progress.Waits) = tt
  grown_new table (making, progress.Done next) = begun_new p.setting table next
  grown_new table (making, progress.Refused fault) = tt

  enough_new : (table : Table) (need : ℕ) → NewRoom {K = K} {V = V} (enough p table need)
  enough_new table need = by (nat_lt (2 ^ 48) need) (nat_lt table.len need)
    where
      by : (a b : Bool)
          → NewRoom {K = K} {V = V} (if a then refusing p Capacity else (if b then (standing p (reserves.Follows table need), outcome.Goes) else (standing p reserves.Over, outcome.Done tt)))
      by true b = tt
      by false true = tt
      by false false = tt

  summed_new : (table : Table) (end : Sum × Advance ℕ) → NewRoom {K = K} {V = V} (summed p table end)
  summed_new table (sum, progress.Goes) = tt
  summed_new table (sum, progress.Waits) = tt
  summed_new table (sum, progress.Done count) = enough_new table (needed p.additional count)
  summed_new table (sum, progress.Refused fault) = tt

  on_root : (out : Out (Node K V)) → Always NewRoom (root_read p out)
  on_root (Found link) = always_if NewRoom (link == 0) _ _ tt (λ value. tt)
  on_root _ = here

  on_next : (table : Table) (need : ℕ) (out : Out (Node K V)) → Always NewRoom (next_read p table need out)
  on_next table need (Found link) = always_if NewRoom (link == 0) _ _ tt (λ value. begun_new p.setting table _)
  on_next table need _ = here

  room_plan : (stands : Reserving) → copier_in_room stands ≡ None → AlwaysOf (NewRoom {K = K} {V = V}) (plan_at hash p stands)
  room_plan reserves.Reads none = on_root
  room_plan (reserves.Makes making) none = always_plan_as NewRoom (made p) made_new (new_table_plan making)
  room_plan (reserves.Sums table sum) none = always_plan_as NewRoom (summed p table) (summed_new table) (sum_plan sum)
  room_plan (reserves.Follows table need) none = on_next table need
  room_plan (reserves.Grows table making) none = always_plan_as NewRoom (grown p table) (grown_new table) (new_table_plan making)
  room_plan (reserves.Copies copier) none = absurd (cc none)
  room_plan reserves.Over none = here
  room_plan (reserves.Refused fault) none = here

module _ {K V : Type 0} (hash : K → ℕ) (m m2 : Mem (Node K V)) where
  pub room_new : (p : Reserve) (end : Reserve × Yielding (Node K V) Unit) → copier_in_room p.stands ≡ None → Steps Took value_at m (reserve_plan hash p) m2 end → NewRoom end
  room_new p end none s = always_steps NewRoom m m2 (reserve_plan hash p) end (room_plan K V hash p (as_none none) p.stands none) s
