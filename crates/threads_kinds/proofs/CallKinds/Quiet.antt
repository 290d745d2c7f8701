-- Steps of the machines that calls are made of: one that makes no operation looks at nothing, and no operation replaces a value.
use Rattle.std.specs.Prelude.{ℕ, Bool, Option}
use Rattle.seize_words.specs.OneMemory.Plan.{Plan, Then, Turn, Do, Now, Seeing, Sure, then_as, plan_as}
use Rattle.seize.specs.Defer.{defer_plan}
use Rattle.seize.specs.Defer as defer
use Rattle.seize.specs.Settle.{settle_plan}
use Rattle.seize.specs.Settle as settle
use Rattle.seize.specs.declared.rows.defer.Defer.{Defer}
use Rattle.seize.specs.declared.rows.defer.Deferring.{Deferring}
use Rattle.seize.specs.declared.rows.defer.Deferring.TheVariants as defers
use Rattle.seize.specs.declared.rows.settle.Settle.{Settle}
use Rattle.seize.specs.declared.rows.settle.Settling.{Settling}
use Rattle.seize.specs.declared.rows.settle.Settling.TheVariants as settles
use Rattle.map_tables.specs.Nodes.{deferred_word}
use Rattle.map_tables.specs.declared.node.Node.{Node}
use Rattle.map_machines.specs.Copier.{copier_plan}
use Rattle.map_machines.specs.Copier as copier
use Rattle.map_machines.specs.CopierFurther.{grown, remade}
use Rattle.map_machines.specs.CopierPromotes.{retired}
use Rattle.map_machines.specs.Dispose.{dispose_plan, settled, deferred}
use Rattle.map_machines.specs.Dispose as dispose
use Rattle.map_machines.specs.Lookup.{lookup_plan}
use Rattle.map_machines.specs.Lookup as lookup
use Rattle.map_machines.specs.NewTable.{new_table_plan, counted}
use Rattle.map_machines.specs.NewTable as new_table
use Rattle.map_machines.specs.Sum.{sum_plan}
use Rattle.map_machines.specs.Sum as sum
use Rattle.map_machines.specs.declared.copier.Copier.{Copier}
use Rattle.map_machines.specs.declared.copier.Copying.{Copying}
use Rattle.map_machines.specs.declared.copier.Copying.TheVariants as copies
use Rattle.map_machines.specs.declared.dispose.Dispose.{Dispose}
use Rattle.map_machines.specs.declared.dispose.Disposing.{Disposing}
use Rattle.map_machines.specs.declared.dispose.Disposing.TheVariants as disposes
use Rattle.map_machines.specs.declared.lookup.Lookup.{Lookup}
use Rattle.map_machines.specs.declared.lookup.Looking.{Looking}
use Rattle.map_machines.specs.declared.lookup.Looking.TheVariants as looks
use Rattle.map_machines.specs.declared.new_table.NewTable.{NewTable}
use Rattle.map_machines.specs.declared.new_table.Making.{Making}
use Rattle.map_machines.specs.declared.new_table.Making.TheVariants as makes
use Rattle.map_machines.specs.declared.sum.Sum.{Sum}
use Rattle.map_machines.specs.declared.sum.Summing.{Summing}
use Rattle.map_machines.specs.declared.sum.Summing.TheVariants as sums
use Rattle.papaya_raw.specs.Given.ReservesDeclared.reserve.Reserve.{Reserve}
use Rattle.papaya_raw.specs.Given.ReservesDeclared.reserve.Reserving.{Reserving}
use Rattle.papaya_raw.specs.Given.ReservesDeclared.reserve.Reserving.TheVariants as reserves
use Rattle.papaya_raw.specs.Given.ReservesReserve as reserve
use Rattle.papaya_raw.specs.Given.ReservesReserve.{reserve_plan}
use Rattle.papaya_raw.specs.Given.ReservesDeclared.sweep.Sweep.{Sweep}
use Rattle.papaya_raw.specs.Given.ReservesDeclared.sweep.Sweeping.{Sweeping}
use Rattle.papaya_raw.specs.Given.ReservesDeclared.sweep.Sweeping.TheVariants as sweeps
use Rattle.papaya_raw.specs.Given.SweepsSweep as sweep
use Rattle.papaya_raw.specs.Given.SweepsSweep.{sweep_plan}
use Rattle.seize_views.proofs.Views.Looks.{IsNow}
use Rattle.threads_kinds.proofs.CallKinds.Plans.{ReplacesNone}

abbrev pub IsQuiet : {T R : Type 0} → Plan T R → Type 0
IsQuiet (Turn rest) = IsNow rest
IsQuiet (Do op rest) = ReplacesNone op

module _ {T A B : Type 0} (f : A → B) where
  now_as : (rest : Then T A) → IsNow rest → IsNow (then_as f rest)
  now_as (Now r) is = tt
  now_as (Seeing block rest) is = absurd is
  now_as (Sure fact rest) is = absurd is

  pub quiet_as : (plan : Plan T A) → IsQuiet plan → IsQuiet (plan_as f plan)
  quiet_as (Turn rest) is = now_as rest is
  quiet_as (Do op rest) is = is

module _ {T : Type 0} where
  settle_at : (of : T → Option ℕ) (c : Settle) (p : Settling) → IsQuiet (settle.plan_at of c p)
  settle_at of c settles.Sees = tt
  settle_at of c settles.Holds = tt
  settle_at of c settles.Pops = tt
  settle_at of c (settles.Firsts block) = tt
  settle_at of c (settles.Batches block) = tt
  settle_at of c (settles.Ends block) = tt
  settle_at of c (settles.Appends block) = tt
  settle_at of c (settles.Counts block) = tt
  settle_at of c (settles.Scans slot block marks) = tt
  settle_at of c (settles.Marks slot block marks) = tt
  settle_at of c (settles.Marked slot block marks) = tt
  settle_at of c (settles.Closes marks) = tt
  settle_at of c (settles.Reads block left pushed) = tt
  settle_at of c (settles.Links block left pushed slot head) = tt
  settle_at of c (settles.Pushes block left pushed slot head) = tt
  settle_at of c (settles.Pushed block left pushed) = tt
  settle_at of c (settles.Sums pushed) = tt
  settle_at of c settles.Nexts = tt
  settle_at of c (settles.Drains next word) = tt
  settle_at of c (settles.Joins next more) = tt
  settle_at of c (settles.Tails next) = tt
  settle_at of c (settles.Takes next) = tt
  settle_at of c settles.Puts = tt
  settle_at of c settles.Lists = tt
  settle_at of c (settles.Owns next) = tt
  settle_at of c (settles.Downs next batch) = tt
  settle_at of c settles.Gives = tt
  settle_at of c settles.Over = tt

module _ (T : Type 0) where
  defer_at : (c : Defer) (p : Deferring) → IsQuiet (defer.plan_at {T = T} c p)
  defer_at c defers.Reads = tt
  defer_at c (defers.Links head) = tt
  defer_at c (defers.Pushes head) = tt
  defer_at c defers.Over = tt

  sum_at : (c : Sum) (p : Summing) → IsQuiet (sum.plan_at {T = T} c p)
  sum_at c (sums.Adds shard total) = tt
  sum_at c (sums.Over count) = tt

module _ (K V : Type 0) where
  table_at : (c : NewTable) (p : Making) → IsQuiet (new_table.plan_at {K = K} {V = V} c p)
  table_at c (makes.Sums before reason sum) = quiet_as (counted c before reason) (sum_plan sum) (sum_at (Node K V) sum sum.stands)
  table_at c (makes.Makes table) = tt
  table_at c (makes.Promotes table) = tt
  table_at c (makes.Links table) = tt
  table_at c (makes.Drops table found) = tt
  table_at c (makes.Over table) = tt
  table_at c (makes.Refused fault) = tt

  dispose_at : (c : Dispose) (p : Disposing) → IsQuiet (dispose.plan_at {K = K} {V = V} c p)
  dispose_at c (disposes.Settles s) = quiet_as (settled c) (settle_plan deferred_word s) (settle_at deferred_word s s.stands)
  dispose_at c disposes.Reads = tt
  dispose_at c (disposes.Walks table) = tt
  dispose_at c (disposes.Defers d) = quiet_as (deferred c) (defer_plan d) (defer_at (Node K V) d d.stands)
  dispose_at c disposes.Over = tt

  copier_at : (hashes : K → ℕ) (c : Copier) (p : Copying) → IsQuiet (copier.plan_at {V = V} hashes c p)
  copier_at hashes c copies.Begins = tt
  copier_at hashes c copies.Follows = tt
  copier_at hashes c copies.Asks = tt
  copier_at hashes c copies.Sees = tt
  copier_at hashes c copies.Claims = tt
  copier_at hashes c copies.Marks = tt
  copier_at hashes c (copies.Probes word key table probe) = tt
  copier_at hashes c (copies.Puts word key table probe) = tt
  copier_at hashes c (copies.Covers word) = tt
  copier_at hashes c (copies.Passes word key table) = tt
  copier_at hashes c (copies.Grows word key making) = quiet_as (grown c word key) (new_table_plan making) (table_at making making.stands)
  copier_at hashes c copies.Aborts = tt
  copier_at hashes c copies.Replaces = tt
  copier_at hashes c (copies.Remakes making) = quiet_as (remade c) (new_table_plan making) (table_at making making.stands)
  copier_at hashes c copies.Counts = tt
  copier_at hashes c (copies.Tallies word fault) = tt
  copier_at hashes c (copies.Unmarks word fault) = tt
  copier_at hashes c (copies.Unclaims fault) = tt
  copier_at hashes c copies.Promotes = tt
  copier_at hashes c copies.Announces = tt
  copier_at hashes c (copies.Succeeds table) = tt
  copier_at hashes c (copies.Retires s rest) = quiet_as (retired c rest) (settle_plan deferred_word s) (settle_at deferred_word s s.stands)
  copier_at hashes c copies.Over = tt
  copier_at hashes c (copies.Refused fault) = tt

  lookup_at : (keys : K → Bool) (c : Lookup) (p : Looking) → IsQuiet (lookup.plan_at {V = V} keys c p)
  lookup_at keys c looks.Roots = tt
  lookup_at keys c (looks.Probes trial) = tt
  lookup_at keys c (looks.Nexts table) = tt
  lookup_at keys c (looks.Over found) = tt

  pub table_is : (c : NewTable) → IsQuiet (new_table_plan {K = K} {V = V} c)
  table_is c = table_at c c.stands

  pub dispose_is : (c : Dispose) → IsQuiet (dispose_plan {K = K} {V = V} c)
  dispose_is c = dispose_at c c.stands

  pub copier_is : (hashes : K → ℕ) (c : Copier) → IsQuiet (copier_plan {V = V} hashes c)
  copier_is hashes c = copier_at hashes c c.stands

  pub lookup_is : (keys : K → Bool) (c : Lookup) → IsQuiet (lookup_plan {V = V} keys c)
  lookup_is keys c = lookup_at keys c c.stands

  reserve_at : (hashes : K → ℕ) (c : Reserve) (p : Reserving) → IsQuiet (reserve.plan_at {V = V} hashes c p)
  reserve_at hashes c reserves.Reads = tt
  reserve_at hashes c (reserves.Makes making) = quiet_as (reserve.made c) (new_table_plan making) (table_at making making.stands)
  reserve_at hashes c (reserves.Sums table s) = quiet_as (reserve.summed c table) (sum_plan s) (sum_at (Node K V) s s.stands)
  reserve_at hashes c (reserves.Follows table need) = tt
  reserve_at hashes c (reserves.Grows table making) = quiet_as (reserve.grown c table) (new_table_plan making) (table_at making making.stands)
  reserve_at hashes c (reserves.Copies copier) = quiet_as (reserve.copied c) (copier_plan hashes copier) (copier_at hashes copier copier.stands)
  reserve_at hashes c reserves.Over = tt
  reserve_at hashes c (reserves.Refused fault) = tt

  sweep_at : (hashes : K → ℕ) (c : Sweep) (p : Sweeping) → IsQuiet (sweep.plan_at {V = V} hashes c p)
  sweep_at hashes c sweeps.Reads = tt
  sweep_at hashes c sweeps.Follows = tt
  sweep_at hashes c (sweeps.Copies copier) = quiet_as (sweep.copied c) (copier_plan hashes copier) (copier_at hashes copier copier.stands)
  sweep_at hashes c sweeps.Words = tt
  sweep_at hashes c (sweeps.Tries word) = tt
  sweep_at hashes c (sweeps.Counts removed) = tt
  sweep_at hashes c (sweeps.Disposes dispose) = quiet_as (sweep.disposed c) (dispose_plan dispose) (dispose_at dispose dispose.stands)
  sweep_at hashes c sweeps.Ready = tt
  sweep_at hashes c (sweeps.Asks word) = tt
  sweep_at hashes c sweeps.Over = tt
  sweep_at hashes c (sweeps.Refused fault) = tt

  pub sum_is : (c : Sum) → IsQuiet (sum_plan {T = Node K V} c)
  sum_is c = sum_at (Node K V) c c.stands

  pub reserve_is : (hashes : K → ℕ) (c : Reserve) → IsQuiet (reserve_plan {V = V} hashes c)
  reserve_is hashes c = reserve_at hashes c c.stands

  pub sweep_is : (hashes : K → ℕ) (c : Sweep) → IsQuiet (sweep_plan {V = V} hashes c)
  sweep_is hashes c = sweep_at hashes c c.stands
