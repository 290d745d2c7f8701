-- No machine but a call on one key puts a pair into a block, at whatever point it stands.
use Rattle.std.specs.Prelude.{ℕ, Bool}
use Rattle.seize.specs.Defer.{defer_plan}
use Rattle.seize.specs.Defer as defers
use Rattle.seize.specs.Leave.{leave_plan}
use Rattle.seize.specs.Leave as leaves
use Rattle.seize.specs.Settle.{settle_plan}
use Rattle.seize.specs.Settle as settles
use Rattle.seize.specs.declared.rows.defer.Defer.{Defer}
use Rattle.seize.specs.declared.rows.defer.Deferring.{Deferring}
use Rattle.seize.specs.declared.rows.defer.Deferring.TheVariants as deferring
use Rattle.seize.specs.declared.rows.leave.Leave.{Leave}
use Rattle.seize.specs.declared.rows.leave.Leaving.{Leaving}
use Rattle.seize.specs.declared.rows.leave.Leaving.TheVariants as leaving
use Rattle.seize.specs.declared.rows.settle.Settle.{Settle}
use Rattle.seize.specs.declared.rows.settle.Settling.{Settling}
use Rattle.seize.specs.declared.rows.settle.Settling.TheVariants as settling
use Rattle.map_tables.specs.Nodes.{deferred_word}
use Rattle.map_tables.specs.declared.node.Node.{Node}
use Rattle.map_straight.specs.Given.ResizeCopier.{copier_plan}
use Rattle.map_straight.specs.Given.ResizeCopier as copiers
use Rattle.map_straight.specs.Given.ResizeCopierFurther.{grown, remade}
use Rattle.map_straight.specs.Given.ResizeCopierPromotes.{retired}
use Rattle.map_straight.specs.Given.ResizeDispose.{dispose_plan}
use Rattle.map_straight.specs.Given.ResizeDispose as disposes
use Rattle.map_straight.specs.Given.ResizeLookup.{lookup_plan}
use Rattle.map_straight.specs.Given.ResizeLookup as lookups
use Rattle.map_straight.specs.Given.ResizeNewMap.{new_map_plan}
use Rattle.map_straight.specs.Given.ResizeNewMap as maps
use Rattle.map_straight.specs.Given.ResizeNewTable.{new_table_plan}
use Rattle.map_straight.specs.Given.ResizeNewTable as tables
use Rattle.map_straight.specs.Given.ResizeSum.{sum_plan}
use Rattle.map_straight.specs.Given.ResizeSum as sums
use Rattle.map_straight.specs.Given.ResizeDeclared.copier.Copier.{Copier}
use Rattle.map_straight.specs.Given.ResizeDeclared.copier.Copying.{Copying}
use Rattle.map_straight.specs.Given.ResizeDeclared.copier.Copying.TheVariants as copying
use Rattle.map_straight.specs.Given.ResizeDeclared.dispose.Dispose.{Dispose}
use Rattle.map_straight.specs.Given.ResizeDeclared.dispose.Disposing.{Disposing}
use Rattle.map_straight.specs.Given.ResizeDeclared.dispose.Disposing.TheVariants as disposing
use Rattle.map_straight.specs.Given.ResizeDeclared.lookup.Lookup.{Lookup}
use Rattle.map_straight.specs.Given.ResizeDeclared.lookup.Looking.{Looking}
use Rattle.map_straight.specs.Given.ResizeDeclared.lookup.Looking.TheVariants as looking
use Rattle.map_straight.specs.Given.ResizeDeclared.new_map.NewMap.{NewMap}
use Rattle.map_straight.specs.Given.ResizeDeclared.new_map.Opening.{Opening}
use Rattle.map_straight.specs.Given.ResizeDeclared.new_map.Opening.TheVariants as opening
use Rattle.map_straight.specs.Given.ResizeDeclared.new_table.NewTable.{NewTable}
use Rattle.map_straight.specs.Given.ResizeDeclared.new_table.Making.{Making}
use Rattle.map_straight.specs.Given.ResizeDeclared.new_table.Making.TheVariants as making
use Rattle.map_straight.specs.Given.ResizeDeclared.sum.Sum.{Sum}
use Rattle.map_straight.specs.Given.ResizeDeclared.sum.Summing.{Summing}
use Rattle.map_straight.specs.Given.ResizeDeclared.sum.Summing.TheVariants as summing
use Rattle.papaya_raw.specs.Given.ReservesReserve.{reserve_plan}
use Rattle.papaya_raw.specs.Given.ReservesReserve as reserves
use Rattle.papaya_raw.specs.Given.ReservesDeclared.reserve.Reserve.{Reserve}
use Rattle.papaya_raw.specs.Given.ReservesDeclared.reserve.Reserving.{Reserving}
use Rattle.papaya_raw.specs.Given.ReservesDeclared.reserve.Reserving.TheVariants as reserving
use Rattle.papaya_raw.specs.Given.SweepsSweep.{sweep_plan}
use Rattle.papaya_raw.specs.Given.SweepsSweep as sweeps
use Rattle.papaya_raw.specs.Given.ReservesDeclared.sweep.Sweep.{Sweep}
use Rattle.papaya_raw.specs.Given.ReservesDeclared.sweep.Sweeping.{Sweeping}
use Rattle.papaya_raw.specs.Given.ReservesDeclared.sweep.Sweeping.TheVariants as sweeping
use Rattle.owner_calls.proofs.Holds.Runs.Puts.{PutsNoneBy, puts_as}

module _ (K V : Type 0) where
  settle_at : (c : Settle) (stands : Settling) → PutsNoneBy (settles.plan_at (deferred_word {K = K} {V = V}) c stands)
  settle_at c settling.Sees = tt
  settle_at c settling.Holds = tt
  settle_at c settling.Pops = tt
  settle_at c (settling.Firsts block) = tt
  settle_at c (settling.Batches block) = tt
  settle_at c (settling.Ends block) = tt
  settle_at c (settling.Appends block) = tt
  settle_at c (settling.Counts block) = tt
  settle_at c (settling.Scans slot block marks) = tt
  settle_at c (settling.Marks slot block marks) = tt
  settle_at c (settling.Marked slot block marks) = tt
  settle_at c (settling.Closes marks) = tt
  settle_at c (settling.Reads block left pushed) = tt
  settle_at c (settling.Links block left pushed slot head) = tt
  settle_at c (settling.Pushes block left pushed slot head) = tt
  settle_at c (settling.Pushed block left pushed) = tt
  settle_at c (settling.Sums pushed) = tt
  settle_at c settling.Nexts = tt
  settle_at c (settling.Drains next word) = tt
  settle_at c (settling.Joins next more) = tt
  settle_at c (settling.Tails next) = tt
  settle_at c (settling.Takes next) = tt
  settle_at c settling.Puts = tt
  settle_at c settling.Lists = tt
  settle_at c (settling.Owns next) = tt
  settle_at c (settling.Downs next batch) = tt
  settle_at c settling.Gives = tt
  settle_at c settling.Over = tt

  pub settle_puts : (c : Settle) → PutsNoneBy (settle_plan (deferred_word {K = K} {V = V}) c)
  settle_puts c = settle_at c c.stands

  leave_at : (c : Leave) (stands : Leaving) → PutsNoneBy (leaves.plan_at (deferred_word {K = K} {V = V}) c stands)
  leave_at c leaving.Swaps = tt
  leave_at c (leaving.Settles settle) = puts_as (leaves.settled c) (settle_plan deferred_word settle) (settle_puts settle)
  leave_at c leaving.Frees = tt
  leave_at c leaving.Over = tt

  pub leave_puts : (c : Leave) → PutsNoneBy (leave_plan (deferred_word {K = K} {V = V}) c)
  leave_puts c = leave_at c c.stands

  defer_at : (c : Defer) (stands : Deferring) → PutsNoneBy (defers.plan_at {T = Node K V} c stands)
  defer_at c deferring.Reads = tt
  defer_at c (deferring.Links head) = tt
  defer_at c (deferring.Pushes head) = tt
  defer_at c deferring.Over = tt

  dispose_at : (c : Dispose) (stands : Disposing) → PutsNoneBy (disposes.plan_at {K = K} {V = V} c stands)
  dispose_at c (disposing.Settles settle) = puts_as (disposes.settled c) (settle_plan deferred_word settle) (settle_puts settle)
  dispose_at c disposing.Reads = tt
  dispose_at c (disposing.Walks table) = tt
  dispose_at c (disposing.Defers defer) = puts_as (disposes.deferred c) (defer_plan defer) (defer_at defer defer.stands)
  dispose_at c disposing.Over = tt

  pub dispose_puts : (c : Dispose) → PutsNoneBy (dispose_plan {K = K} {V = V} c)
  dispose_puts c = dispose_at c c.stands

  lookup_at : (keys : K → Bool) (c : Lookup) (stands : Looking) → PutsNoneBy (lookups.plan_at {V = V} keys c stands)
  lookup_at keys c looking.Roots = tt
  lookup_at keys c (looking.Probes trial) = tt
  lookup_at keys c (looking.Nexts table) = tt
  lookup_at keys c (looking.Over found) = tt

  pub lookup_puts : (keys : K → Bool) (c : Lookup) → PutsNoneBy (lookup_plan {V = V} keys c)
  lookup_puts keys c = lookup_at keys c c.stands

  sum_at : (c : Sum) (stands : Summing) → PutsNoneBy (sums.plan_at {T = Node K V} c stands)
  sum_at c (summing.Adds shard total) = tt
  sum_at c (summing.Over count) = tt

  table_at : (c : NewTable) (stands : Making) → PutsNoneBy (tables.plan_at {K = K} {V = V} c stands)
  table_at c (making.Sums before reason sum) = puts_as (tables.counted c before reason) (sum_plan sum) (sum_at sum sum.stands)
  table_at c (making.Makes table) = tt
  table_at c (making.Promotes table) = tt
  table_at c (making.Links table) = tt
  table_at c (making.Drops table found) = tt
  table_at c (making.Over table) = tt
  table_at c (making.Refused fault) = tt

  pub table_puts : (c : NewTable) → PutsNoneBy (new_table_plan {K = K} {V = V} c)
  table_puts c = table_at c c.stands

  copier_at : (hash : K → ℕ) (c : Copier) (stands : Copying) → PutsNoneBy (copiers.plan_at {V = V} hash c stands)
  copier_at hash c copying.Begins = tt
  copier_at hash c copying.Follows = tt
  copier_at hash c copying.Asks = tt
  copier_at hash c copying.Sees = tt
  copier_at hash c copying.Claims = tt
  copier_at hash c copying.Marks = tt
  copier_at hash c (copying.Probes word key table probe) = tt
  copier_at hash c (copying.Puts word key table probe) = tt
  copier_at hash c (copying.Covers word) = tt
  copier_at hash c (copying.Passes word key table) = tt
  copier_at hash c (copying.Grows word key making) = puts_as (grown c word key) (new_table_plan making) (table_puts making)
  copier_at hash c copying.Aborts = tt
  copier_at hash c copying.Replaces = tt
  copier_at hash c (copying.Remakes making) = puts_as (remade c) (new_table_plan making) (table_puts making)
  copier_at hash c copying.Counts = tt
  copier_at hash c (copying.Tallies word fault) = tt
  copier_at hash c (copying.Unmarks word fault) = tt
  copier_at hash c (copying.Unclaims fault) = tt
  copier_at hash c copying.Promotes = tt
  copier_at hash c copying.Announces = tt
  copier_at hash c (copying.Succeeds table) = tt
  copier_at hash c (copying.Retires settle rest) = puts_as (retired c rest) (settle_plan deferred_word settle) (settle_puts settle)
  copier_at hash c copying.Over = tt
  copier_at hash c (copying.Refused fault) = tt

  pub copier_puts : (hash : K → ℕ) (c : Copier) → PutsNoneBy (copier_plan {V = V} hash c)
  copier_puts hash c = copier_at hash c c.stands

  reserve_at : (hash : K → ℕ) (c : Reserve) (stands : Reserving) → PutsNoneBy (reserves.plan_at {V = V} hash c stands)
  reserve_at hash c reserving.Reads = tt
  reserve_at hash c (reserving.Makes making) = puts_as (reserves.made c) (new_table_plan making) (table_puts making)
  reserve_at hash c (reserving.Sums table sum) = puts_as (reserves.summed c table) (sum_plan sum) (sum_at sum sum.stands)
  reserve_at hash c (reserving.Follows table need) = tt
  reserve_at hash c (reserving.Grows table making) = puts_as (reserves.grown c table) (new_table_plan making) (table_puts making)
  reserve_at hash c (reserving.Copies copier) = puts_as (reserves.copied c) (copier_plan hash copier) (copier_puts hash copier)
  reserve_at hash c reserving.Over = tt
  reserve_at hash c (reserving.Refused fault) = tt

  pub reserve_puts : (hash : K → ℕ) (c : Reserve) → PutsNoneBy (reserve_plan {V = V} hash c)
  reserve_puts hash c = reserve_at hash c c.stands

  sweep_at : (hash : K → ℕ) (c : Sweep) (stands : Sweeping) → PutsNoneBy (sweeps.plan_at {V = V} hash c stands)
  sweep_at hash c sweeping.Reads = tt
  sweep_at hash c sweeping.Follows = tt
  sweep_at hash c (sweeping.Copies copier) = puts_as (sweeps.copied c) (copier_plan hash copier) (copier_puts hash copier)
  sweep_at hash c sweeping.Words = tt
  sweep_at hash c (sweeping.Tries word) = tt
  sweep_at hash c (sweeping.Counts removed) = tt
  sweep_at hash c (sweeping.Disposes dispose) = puts_as (sweeps.disposed c) (dispose_plan dispose) (dispose_puts dispose)
  sweep_at hash c sweeping.Ready = tt
  sweep_at hash c (sweeping.Asks word) = tt
  sweep_at hash c sweeping.Over = tt
  sweep_at hash c (sweeping.Refused fault) = tt

  pub sweep_puts : (hash : K → ℕ) (c : Sweep) → PutsNoneBy (sweep_plan {V = V} hash c)
  sweep_puts hash c = sweep_at hash c c.stands

  map_at : (c : NewMap) (stands : Opening) → PutsNoneBy (maps.plan_at {K = K} {V = V} c stands)
  map_at c opening.Takes = tt
  map_at c opening.Shards = tt
  map_at c (opening.Tables making) = puts_as (maps.opened c) (new_table_plan making) (table_puts making)
  map_at c (opening.Unmakes fault) = tt
  map_at c (opening.Frees fault) = tt
  map_at c opening.Over = tt
  map_at c (opening.Refused fault) = tt

  pub map_puts : (c : NewMap) → PutsNoneBy (new_map_plan {K = K} {V = V} c)
  map_puts c = map_at c c.stands
