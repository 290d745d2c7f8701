-- A block that a machine makes is a table's, by its making; a call on one key makes its own one, too.
use Rattle.std.specs.Prelude.{◌≡◌, ℕ, Bool, Option, Some, None, Ok, Err}
use Rattle.std.proofs.Common.{refl, sym, ◌∙◌, ◌⊎◌, inl, inr}
use Rattle.run_debts.specs.Given.SeizeWordsMem.{Mem}
use Rattle.run_debts.specs.Given.SeizeWordsOp.{Op, Out, Load, Store, Swap, Add, Or, Exchange, Make, Take, Rewrite, Room, Found, Exchanged, Made, Roomed}
use Rattle.run_debts.specs.Given.SeizeWordsPlan.{Plan, Turn, Do, plan_as}
use Rattle.run_debts.specs.Given.SeizeDefer.{defer_plan}
use Rattle.run_debts.specs.Given.SeizeDefer as defers
use Rattle.run_debts.specs.Given.SeizeSettle.{settle_plan}
use Rattle.run_debts.specs.Given.SeizeSettle as settles
use Rattle.run_debts.specs.Given.SeizeDeclared.rows.defer.Defer.{Defer}
use Rattle.run_debts.specs.Given.SeizeDeclared.rows.defer.Deferring.{Deferring}
use Rattle.run_debts.specs.Given.SeizeDeclared.rows.defer.Deferring.TheVariants as deferring
use Rattle.run_debts.specs.Given.SeizeDeclared.rows.settle.Settle.{Settle}
use Rattle.run_debts.specs.Given.SeizeDeclared.rows.settle.Settling.{Settling}
use Rattle.run_debts.specs.Given.SeizeDeclared.rows.settle.Settling.TheVariants as settling
use Rattle.run_debts.specs.Given.TablesNodes.{deferred_word}
use Rattle.run_debts.specs.Given.TablesDeclared.node.Node.{Node}
use Rattle.run_debts.specs.Given.TablesDeclared.node.Node.TheVariants as node
use Rattle.run_debts.specs.Given.TablesDeclared.table.Table.{Table}
use Rattle.owner_calls.specs.Given.ResizeCopier.{copier_plan}
use Rattle.owner_calls.specs.Given.ResizeCopier as copiers
use Rattle.owner_calls.specs.Given.ResizeCopierFurther.{grown, remade}
use Rattle.owner_calls.specs.Given.ResizeCopierPromotes.{retired}
use Rattle.owner_calls.specs.Given.ResizeDispose.{dispose_plan}
use Rattle.owner_calls.specs.Given.ResizeDispose as disposes
use Rattle.owner_calls.specs.Given.ResizeLookup.{lookup_plan}
use Rattle.owner_calls.specs.Given.ResizeLookup as lookups
use Rattle.owner_calls.specs.Given.ResizeNewTable.{new_table_plan}
use Rattle.owner_calls.specs.Given.ResizeNewTable as tables
use Rattle.owner_calls.specs.Given.ResizeSum.{sum_plan}
use Rattle.owner_calls.specs.Given.ResizeSum as sums
use Rattle.owner_calls.specs.Given.ResizeDeclared.copier.Copier.{Copier}
use Rattle.owner_calls.specs.Given.ResizeDeclared.copier.Copying.{Copying}
use Rattle.owner_calls.specs.Given.ResizeDeclared.copier.Copying.TheVariants as copying
use Rattle.owner_calls.specs.Given.ResizeDeclared.dispose.Dispose.{Dispose}
use Rattle.owner_calls.specs.Given.ResizeDeclared.dispose.Disposing.{Disposing}
use Rattle.owner_calls.specs.Given.ResizeDeclared.dispose.Disposing.TheVariants as disposing
use Rattle.owner_calls.specs.Given.ResizeDeclared.lookup.Lookup.{Lookup}
use Rattle.owner_calls.specs.Given.ResizeDeclared.lookup.Looking.{Looking}
use Rattle.owner_calls.specs.Given.ResizeDeclared.lookup.Looking.TheVariants as looking
use Rattle.owner_calls.specs.Given.ResizeDeclared.new_table.NewTable.{NewTable}
use Rattle.owner_calls.specs.Given.ResizeDeclared.new_table.Making.{Making}
use Rattle.owner_calls.specs.Given.ResizeDeclared.new_table.Making.TheVariants as making
use Rattle.owner_calls.specs.Given.ResizeDeclared.sum.Sum.{Sum}
use Rattle.owner_calls.specs.Given.ResizeDeclared.sum.Summing.{Summing}
use Rattle.owner_calls.specs.Given.ResizeDeclared.sum.Summing.TheVariants as summing
use Rattle.owner_calls.specs.Given.ReservesReserve.{reserve_plan}
use Rattle.owner_calls.specs.Given.ReservesReserve as reserves
use Rattle.run_debts.specs.Given.ReservesDeclared.reserve.Reserve.{Reserve}
use Rattle.run_debts.specs.Given.ReservesDeclared.reserve.Reserving.{Reserving}
use Rattle.run_debts.specs.Given.ReservesDeclared.reserve.Reserving.TheVariants as reserving
use Rattle.owner_calls.specs.Given.SweepsSweep.{sweep_plan}
use Rattle.owner_calls.specs.Given.SweepsSweep as sweeps
use Rattle.run_debts.specs.Given.ReservesDeclared.sweep.Sweep.{Sweep}
use Rattle.run_debts.specs.Given.ReservesDeclared.sweep.Sweeping.{Sweeping}
use Rattle.run_debts.specs.Given.ReservesDeclared.sweep.Sweeping.TheVariants as sweeping
use Rattle.owner_calls.specs.Given.RawCall.{call_plan, looked, looks_for, first_made, next_made, disposed, helped, copied}
use Rattle.owner_calls.specs.Given.RawCall as calls
use Rattle.run_debts.specs.Given.RawDeclared.machines.asking.Asking.TheVariants as asking
use Rattle.run_debts.specs.Given.RawDeclared.machines.call.Calling.{Calling}
use Rattle.run_debts.specs.Given.RawDeclared.machines.call.Calling.TheVariants as calling
use Rattle.run_debts.specs.Given.RawDeclared.machines.call.KeyCall.{KeyCall}
use Rattle.run_debts.specs.Given.TellsSeen.{seen_of}
use Rattle.run_debts.specs.Given.TellerChanged.{kind_of}
use Rattle.run_debts.specs.Given.TellerTells.{observed_of, StepsObserved}
use Rattle.run_debts.specs.Given.EffectsDeclared.changed.Changed.{Changed}
use Rattle.run_debts.specs.Given.EffectsDeclared.changed.Changed.TheVariants as changed
use Rattle.run_debts.specs.Given.EffectsDeclared.changed.Kind.{Kind}
use Rattle.run_blocks.specs.Owes.Making.{making_in_copying, making_in_calling, making_in_reserving, making_in_sweeping}

module _ {K V : Type 0} where
  -- the value is that of the table which this making is to make
  abbrev pub IsToMake : Option NewTable → Node K V → Type 0
  IsToMake o value = (n : NewTable) × (table : Table) × (o ≡ Some n) × (n.stands ≡ making.Makes table) × (value ≡ node.Table table.len table.limit table.turn)

  -- an operation makes such a block, or none, and asks for no bucket
  abbrev pub MakesSo : (Node K V → Type 0) → Op (Node K V) → Type 0
  MakesSo P (Make value words) = P value
  MakesSo P (Room bucket) = ⊥
  MakesSo P _ = Unit {0}

  abbrev pub PlanMakesSo : {R : Type 0} → (Node K V → Type 0) → Plan (Node K V) R → Type 0
  PlanMakesSo P (Turn rest) = Unit {0}
  PlanMakesSo P (Do op rest) = MakesSo P op

  abbrev pub PlanMakes : {R : Type 0} → Option NewTable → Plan (Node K V) R → Type 0
  PlanMakes o plan = PlanMakesSo (IsToMake o) plan

  pub so_as : {A B : Type 0} (P : Node K V → Type 0) (f : A → B) (plan : Plan (Node K V) A) → PlanMakesSo P plan → PlanMakesSo P (plan_as f plan)
  so_as P f (Turn rest) so = tt
  so_as P f (Do op rest) so = so

  -- what is made so is made as that as well
  op_more : (P Q : Node K V → Type 0) → ((value : Node K V) → P value → Q value) → (op : Op (Node K V)) → MakesSo P op → MakesSo Q op
  op_more P Q more (Make value words) so = more value so
  op_more P Q more (Room bucket) so = so
  op_more P Q more _ so = tt

  pub so_more : {R : Type 0} (P Q : Node K V → Type 0) → ((value : Node K V) → P value → Q value) → (plan : Plan (Node K V) R) → PlanMakesSo P plan → PlanMakesSo Q plan
  so_more P Q more (Turn rest) so = tt
  so_more P Q more (Do op rest) so = op_more P Q more op so

  pub makes_as : {A B : Type 0} (o : Option NewTable) (f : A → B) (plan : Plan (Node K V) A) → PlanMakes o plan → PlanMakes o (plan_as f plan)
  makes_as o f plan so = so_as (IsToMake o) f plan so

  -- what is told as made was made so
  op_made : (P : Node K V → Type 0) (m : Mem (Node K V)) (op : Op (Node K V)) (out : Out (Node K V)) (k : Kind) (b : ℕ) → observed_of op out (seen_of m op out) ≡ changed.Made k b → MakesSo P op
      → (value : Node K V) × P value × (kind_of value ≡ k)
  op_made P m (Load at) out k b e so = absurd (cc e)
  op_made P m (Store at word) out k b e so = absurd (cc e)
  op_made P m (Swap at word) (Found before) k b e so = absurd (cc e)
  op_made P m (Swap at word) _ k b e so = absurd (cc e)
  op_made P m (Add at by) (Found before) k b e so = absurd (cc e)
  op_made P m (Add at by) _ k b e so = absurd (cc e)
  op_made P m (Or at bits) (Found before) k b e so = absurd (cc e)
  op_made P m (Or at bits) _ k b e so = absurd (cc e)
  op_made P m (Exchange at before word) (Exchanged (Ok found)) k b e so = absurd (cc e)
  op_made P m (Exchange at before word) _ k b e so = absurd (cc e)
  op_made P m (Make value words) (Made (Ok x)) k b e so = (value, so, (let same : kind_of value ≡ k = cc e in same))
  op_made P m (Make value words) (Made (Err back)) k b e so = absurd (cc e)
  op_made P m (Make value words) _ k b e so = absurd (cc e)
  op_made P m (Take x) out k b e so = absurd (cc e)
  op_made P m (Rewrite x value) out k b e so = absurd (cc e)
  op_made P m (Room bucket) (Roomed roomed) k b e so = absurd (cc e)
  op_made P m (Room bucket) _ k b e so = absurd (cc e)

  pub plan_made_so : {R : Type 0} (P : Node K V → Type 0) (m m2 : Mem (Node K V)) (told : Changed) (plan : Plan (Node K V) R) (end : R) → StepsObserved K V R m changed.Nothing plan m2 told end → PlanMakesSo P plan
      → (k : Kind) (b : ℕ) → told ≡ changed.Made k b → (value : Node K V) × P value × (kind_of value ≡ k)
  plan_made_so P m m2 told (Turn rest) end steps so k b is = absurd (let nothing = steps.2 in cc (nothing, is))
  plan_made_so P m m2 told (Do op rest) end steps so k b is = op_made P m op steps.0 k b (sym steps.1.1 ∙ is) so

  -- a block that was refused was to be made so

  op_unmade : (P : Node K V → Type 0) (m : Mem (Node K V)) (op : Op (Node K V)) (out : Out (Node K V)) (k : Kind) → observed_of op out (seen_of m op out) ≡ changed.Unmade k → MakesSo P op
      → (value : Node K V) × P value
  op_unmade P m (Load at) out k e so = absurd (cc e)
  op_unmade P m (Store at word) out k e so = absurd (cc e)
  op_unmade P m (Swap at word) (Found before) k e so = absurd (cc e)
  op_unmade P m (Swap at word) _ k e so = absurd (cc e)
  op_unmade P m (Add at by) (Found before) k e so = absurd (cc e)
  op_unmade P m (Add at by) _ k e so = absurd (cc e)
  op_unmade P m (Or at bits) (Found before) k e so = absurd (cc e)
  op_unmade P m (Or at bits) _ k e so = absurd (cc e)
  op_unmade P m (Exchange at before word) (Exchanged (Ok found)) k e so = absurd (cc e)
  op_unmade P m (Exchange at before word) _ k e so = absurd (cc e)
  op_unmade P m (Make value words) out k e so = (value, so)
  op_unmade P m (Take x) out k e so = absurd (cc e)
  op_unmade P m (Rewrite x value) out k e so = absurd (cc e)
  op_unmade P m (Room bucket) out k e so = absurd so

  pub plan_unmade_so : {R : Type 0} (P : Node K V → Type 0) (m m2 : Mem (Node K V)) (told : Changed) (plan : Plan (Node K V) R) (end : R) → StepsObserved K V R m changed.Nothing plan m2 told end → PlanMakesSo P plan
      → (k : Kind) → told ≡ changed.Unmade k → (value : Node K V) × P value
  plan_unmade_so P m m2 told (Turn rest) end steps so k is = absurd (let nothing = steps.2 in cc (nothing, is))
  plan_unmade_so P m m2 told (Do op rest) end steps so k is = op_unmade P m op steps.0 k (sym steps.1.1 ∙ is) so

  -- no bucket was asked for

  op_no_room : (P : Node K V → Type 0) (m : Mem (Node K V)) (op : Op (Node K V)) (out : Out (Node K V)) (bucket : ℕ) (had : Bool) → observed_of op out (seen_of m op out) ≡ changed.Roomed bucket had → MakesSo P op → ⊥
  op_no_room P m (Load at) out bucket had e so = cc e
  op_no_room P m (Store at word) out bucket had e so = cc e
  op_no_room P m (Swap at word) (Found before) bucket had e so = cc e
  op_no_room P m (Swap at word) _ bucket had e so = cc e
  op_no_room P m (Add at by) (Found before) bucket had e so = cc e
  op_no_room P m (Add at by) _ bucket had e so = cc e
  op_no_room P m (Or at bits) (Found before) bucket had e so = cc e
  op_no_room P m (Or at bits) _ bucket had e so = cc e
  op_no_room P m (Exchange at before word) (Exchanged (Ok found)) bucket had e so = cc e
  op_no_room P m (Exchange at before word) _ bucket had e so = cc e
  op_no_room P m (Make value words) (Made (Ok x)) bucket had e so = cc e
  op_no_room P m (Make value words) (Made (Err back)) bucket had e so = cc e
  op_no_room P m (Make value words) _ bucket had e so = cc e
  op_no_room P m (Take x) out bucket had e so = cc e
  op_no_room P m (Rewrite x value) out bucket had e so = cc e
  op_no_room P m (Room other) out bucket had e so = so

  pub plan_no_room : {R : Type 0} (P : Node K V → Type 0) (m m2 : Mem (Node K V)) (told : Changed) (plan : Plan (Node K V) R) (end : R) → StepsObserved K V R m changed.Nothing plan m2 told end → PlanMakesSo P plan
      → (bucket : ℕ) (had : Bool) → told ≡ changed.Roomed bucket had → ⊥
  plan_no_room P m m2 told (Turn rest) end steps so bucket had is = (let nothing = steps.2 in cc (nothing, is))
  plan_no_room P m m2 told (Do op rest) end steps so bucket had is = op_no_room P m op steps.0 bucket had (sym steps.1.1 ∙ is) so

  pub plan_made : {R : Type 0} (o : Option NewTable) (m m2 : Mem (Node K V)) (told : Changed) (plan : Plan (Node K V) R) (end : R) → StepsObserved K V R m changed.Nothing plan m2 told end → PlanMakes o plan
      → (k : Kind) (b : ℕ) → told ≡ changed.Made k b → (value : Node K V) × IsToMake o value × (kind_of value ≡ k)
  plan_made o m m2 told plan end steps so k b is = plan_made_so (IsToMake o) m m2 told plan end steps so k b is

-- each plan, at whatever point
module _ (K V : Type 0) where
  settle_at : (o : Option NewTable) (c : Settle) (p : Settling) → PlanMakes o (settles.plan_at (deferred_word {K = K} {V = V}) c p)
  settle_at o c settling.Sees = tt
  settle_at o c _ = tt

  defer_at : (o : Option NewTable) (c : Defer) (p : Deferring) → PlanMakes o (defers.plan_at {T = Node K V} c p)
  defer_at o c deferring.Reads = tt
  defer_at o c (deferring.Links head) = tt
  defer_at o c (deferring.Pushes head) = tt
  defer_at o c deferring.Over = tt

  dispose_at : (o : Option NewTable) (c : Dispose) (p : Disposing) → PlanMakes o (disposes.plan_at {K = K} {V = V} c p)
  dispose_at o c (disposing.Settles settle) = makes_as o (disposes.settled c) (settle_plan deferred_word settle) (settle_at o settle settle.stands)
  dispose_at o c disposing.Reads = tt
  dispose_at o c (disposing.Walks table) = tt
  dispose_at o c (disposing.Defers defer) = makes_as o (disposes.deferred c) (defer_plan defer) (defer_at o defer defer.stands)
  dispose_at o c disposing.Over = tt

  lookup_at : (o : Option NewTable) (keys : K → Bool) (c : Lookup) (p : Looking) → PlanMakes o (lookups.plan_at {V = V} keys c p)
  lookup_at o keys c looking.Roots = tt
  lookup_at o keys c (looking.Probes trial) = tt
  lookup_at o keys c (looking.Nexts table) = tt
  lookup_at o keys c (looking.Over found) = tt

  pub sum_at : (o : Option NewTable) (c : Sum) (p : Summing) → PlanMakes o (sums.plan_at {T = Node K V} c p)
  sum_at o c (summing.Adds shard total) = tt
  sum_at o c (summing.Over count) = tt

  table_at : (c : NewTable) (p : Making) → c.stands ≡ p → PlanMakes (Some c) (tables.plan_at {K = K} {V = V} c p)
  table_at c (making.Sums before reason sum) is = makes_as (Some c) (tables.counted c before reason) (sum_plan sum) (sum_at (Some c) sum sum.stands)
  table_at c (making.Makes table) is = (c, table, refl, is, refl)
  table_at c (making.Promotes table) is = tt
  table_at c (making.Links table) is = tt
  table_at c (making.Drops table found) is = tt
  table_at c (making.Over table) is = tt
  table_at c (making.Refused fault) is = tt

  pub table_makes : (c : NewTable) → PlanMakes (Some c) (new_table_plan {K = K} {V = V} c)
  table_makes c = table_at c c.stands refl

  copier_at : (hash : K → ℕ) (c : Copier) (p : Copying) → PlanMakes (making_in_copying p) (copiers.plan_at {V = V} hash c p)
  copier_at hash c copying.Begins = tt
  copier_at hash c (copying.Grows word code n) = makes_as (Some n) (grown c word code) (new_table_plan n) (table_makes n)
  copier_at hash c (copying.Remakes n) = makes_as (Some n) (remade c) (new_table_plan n) (table_makes n)
  copier_at hash c (copying.Retires settle rest) = makes_as None (retired c rest) (settle_plan deferred_word settle) (settle_at None settle settle.stands)
  copier_at hash c _ = tt

  copier_makes : (hash : K → ℕ) (c : Copier) → PlanMakes (making_in_copying c.stands) (copier_plan {V = V} hash c)
  copier_makes hash c = copier_at hash c c.stands

  reserve_at : (hash : K → ℕ) (c : Reserve) (p : Reserving) → PlanMakes (making_in_reserving p) (reserves.plan_at {V = V} hash c p)
  reserve_at hash c reserving.Reads = tt
  reserve_at hash c (reserving.Makes n) = makes_as (Some n) (reserves.made c) (new_table_plan n) (table_makes n)
  reserve_at hash c (reserving.Sums table sum) = makes_as None (reserves.summed c table) (sum_plan sum) (sum_at None sum sum.stands)
  reserve_at hash c (reserving.Follows table need) = tt
  reserve_at hash c (reserving.Grows table n) = makes_as (Some n) (reserves.grown c table) (new_table_plan n) (table_makes n)
  reserve_at hash c (reserving.Copies copier) = makes_as (making_in_copying copier.stands) (reserves.copied c) (copier_plan hash copier) (copier_makes hash copier)
  reserve_at hash c reserving.Over = tt
  reserve_at hash c (reserving.Refused fault) = tt

  pub reserve_makes : (hash : K → ℕ) (c : Reserve) → PlanMakes (making_in_reserving c.stands) (reserve_plan {V = V} hash c)
  reserve_makes hash c = reserve_at hash c c.stands

  sweep_at : (hash : K → ℕ) (c : Sweep) (p : Sweeping) → PlanMakes (making_in_sweeping p) (sweeps.plan_at {V = V} hash c p)
  sweep_at hash c sweeping.Reads = tt
  sweep_at hash c sweeping.Follows = tt
  sweep_at hash c (sweeping.Copies copier) = makes_as (making_in_copying copier.stands) (sweeps.copied c) (copier_plan hash copier) (copier_makes hash copier)
  sweep_at hash c sweeping.Words = tt
  sweep_at hash c (sweeping.Tries word) = tt
  sweep_at hash c (sweeping.Counts removed) = tt
  sweep_at hash c (sweeping.Disposes dispose) = makes_as None (sweeps.disposed c) (dispose_plan dispose) (dispose_at None dispose dispose.stands)
  sweep_at hash c sweeping.Ready = tt
  sweep_at hash c (sweeping.Asks word) = tt
  sweep_at hash c sweeping.Over = tt
  sweep_at hash c (sweeping.Refused fault) = tt

  pub sweep_makes : (hash : K → ℕ) (c : Sweep) → PlanMakes (making_in_sweeping c.stands) (sweep_plan {V = V} hash c)
  sweep_makes hash c = sweep_at hash c c.stands

-- a call on one key is to make its own block
abbrev pub IsToOwn : Calling → Type 0
IsToOwn calling.Makes = Unit {0}
IsToOwn (calling.Asks (asking.Fills word)) = Unit {0}
IsToOwn _ = ⊥

module _ {K V : Type 0} (asks : K → K → Bool) (same : K → K → Bool) (hash : K → ℕ) (c : KeyCall K V K) where
  looks_at : (lookup : Lookup) (asked : Option K) → PlanMakes None (looks_for asks c lookup asked)
  looks_at lookup (Some q) = makes_as None (looked c) (lookup_plan (asks q) lookup) (lookup_at K V None (asks q) lookup lookup.stands)
  looks_at lookup None = tt

  call_at : (p : Calling) → IsToOwn p ⊎ PlanMakes (making_in_calling p) (calls.plan_at asks same hash c p)
  call_at calling.Makes = inl tt
  call_at (calling.Looks lookup) = inr (looks_at lookup c.asked)
  call_at calling.Roots = inr tt
  call_at calling.Probes = inr tt
  call_at (calling.Tries word new) = inr tt
  call_at (calling.Counts removed) = inr tt
  call_at calling.Nexts = inr tt
  call_at (calling.Firsts n) = inr (makes_as (Some n) (first_made c) (new_table_plan n) (table_makes K V n))
  call_at (calling.Allocs n) = inr (makes_as (Some n) (next_made c) (new_table_plan n) (table_makes K V n))
  call_at (calling.Helps copier goal) = inr (makes_as (making_in_copying copier.stands) (helped c goal) (copier_plan hash copier) (copier_makes K V hash copier))
  call_at (calling.Copies copier) = inr (makes_as (making_in_copying copier.stands) (copied c) (copier_plan hash copier) (copier_makes K V hash copier))
  call_at (calling.Asks (asking.Absent gap)) = inr tt
  call_at (calling.Asks (asking.Present word)) = inr tt
  call_at (calling.Asks (asking.Fills word)) = inl tt
  call_at (calling.Asks (asking.GivesUp word)) = inr tt
  call_at (calling.Disposes dispose answer) = inr (makes_as None (disposed c answer) (dispose_plan dispose) (dispose_at K V None dispose dispose.stands))
  call_at (calling.Drops end) = inr tt
  call_at (calling.Over end) = inr tt

  pub call_makes : IsToOwn c.stands ⊎ PlanMakes (making_in_calling c.stands) (call_plan asks same hash c)
  call_makes = call_at c.stands
