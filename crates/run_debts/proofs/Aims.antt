-- Which words of blocks a step may write, by its plan: those of blocks of which this is so.
use Rattle.std.specs.Prelude.{◌≡◌, ◌==◌, ℕ, Bool, true, false, Option, Some, None, Ok, Err}
use Rattle.std.proofs.Common.{sym, subst, ◌∙◌}
use Rattle.run_places.specs.Given.SeizeWordsDeclared.at.At.{At}
use Rattle.run_places.specs.Given.SeizeWordsDeclared.at.At.TheVariants.{Word}
use Rattle.run_places.specs.Given.SeizeWordsMem.{Mem}
use Rattle.run_places.specs.Given.SeizeWordsOp.{Op, Out, Load, Store, Swap, Add, Or, Exchange, Make, Take, Rewrite, Room, Found, Exchanged, Made, Roomed}
use Rattle.run_places.specs.Given.SeizeWordsPlan.{Plan, Turn, Do, plan_as}
use Rattle.run_places.specs.Given.SeizeWordsWord.{block_in}
use Rattle.run_places.specs.Given.SeizeDefer.{defer_plan}
use Rattle.run_places.specs.Given.SeizeDefer as defers
use Rattle.run_places.specs.Given.SeizeSettle.{settle_plan}
use Rattle.run_places.specs.Given.SeizeSettle as settles
use Rattle.run_places.specs.Given.SeizeDeclared.rows.defer.Defer.{Defer}
use Rattle.run_places.specs.Given.SeizeDeclared.rows.defer.Deferring.{Deferring}
use Rattle.run_places.specs.Given.SeizeDeclared.rows.defer.Deferring.TheVariants as deferring
use Rattle.run_places.specs.Given.SeizeDeclared.rows.settle.Settle.{Settle}
use Rattle.run_places.specs.Given.SeizeDeclared.rows.settle.Settling.{Settling}
use Rattle.run_places.specs.Given.SeizeDeclared.rows.settle.Settling.TheVariants as settling
use Rattle.run_places.specs.Given.TablesNodes.{deferred_word}
use Rattle.run_places.specs.Given.TablesTrials.{place_tried}
use Rattle.run_places.specs.Given.TablesDeclared.node.Node.{Node}
use Rattle.run_places.specs.Given.ResizeCopier.{copier_plan}
use Rattle.run_places.specs.Given.ResizeCopier as copiers
use Rattle.run_places.specs.Given.ResizeCopierFurther.{grown, remade}
use Rattle.run_places.specs.Given.ResizeCopierPromotes.{retired}
use Rattle.run_places.specs.Given.ResizeDispose.{dispose_plan}
use Rattle.run_places.specs.Given.ResizeDispose as disposes
use Rattle.run_places.specs.Given.ResizeLookup.{lookup_plan}
use Rattle.run_places.specs.Given.ResizeLookup as lookups
use Rattle.run_places.specs.Given.ResizeNewTable.{new_table_plan}
use Rattle.run_places.specs.Given.ResizeNewTable as tables
use Rattle.run_places.specs.Given.ResizeSum.{sum_plan}
use Rattle.run_places.specs.Given.ResizeSum as sums
use Rattle.run_places.specs.Given.ResizeDeclared.copier.Copier.{Copier}
use Rattle.run_places.specs.Given.ResizeDeclared.copier.Copying.{Copying}
use Rattle.run_places.specs.Given.ResizeDeclared.copier.Copying.TheVariants as copying
use Rattle.run_places.specs.Given.ResizeDeclared.dispose.Dispose.{Dispose}
use Rattle.run_places.specs.Given.ResizeDeclared.dispose.Disposing.{Disposing}
use Rattle.run_places.specs.Given.ResizeDeclared.dispose.Disposing.TheVariants as disposing
use Rattle.run_places.specs.Given.ResizeDeclared.lookup.Lookup.{Lookup}
use Rattle.run_places.specs.Given.ResizeDeclared.lookup.Looking.{Looking}
use Rattle.run_places.specs.Given.ResizeDeclared.lookup.Looking.TheVariants as looking
use Rattle.run_places.specs.Given.ResizeDeclared.new_table.NewTable.{NewTable}
use Rattle.run_places.specs.Given.ResizeDeclared.new_table.Making.{Making}
use Rattle.run_places.specs.Given.ResizeDeclared.new_table.Making.TheVariants as making
use Rattle.run_places.specs.Given.ResizeDeclared.sum.Sum.{Sum}
use Rattle.run_places.specs.Given.ResizeDeclared.sum.Summing.{Summing}
use Rattle.run_places.specs.Given.ResizeDeclared.sum.Summing.TheVariants as summing
use Rattle.run_places.specs.Given.ReservesReserve.{reserve_plan}
use Rattle.run_places.specs.Given.ReservesReserve as reserves
use Rattle.run_places.specs.Given.ReservesDeclared.reserve.Reserve.{Reserve}
use Rattle.run_places.specs.Given.ReservesDeclared.reserve.Reserving.{Reserving}
use Rattle.run_places.specs.Given.ReservesDeclared.reserve.Reserving.TheVariants as reserving
use Rattle.run_places.specs.Given.SweepsSweep.{sweep_plan}
use Rattle.run_places.specs.Given.SweepsSweep as sweeps
use Rattle.run_places.specs.Given.ReservesDeclared.sweep.Sweep.{Sweep}
use Rattle.run_places.specs.Given.ReservesDeclared.sweep.Sweeping.{Sweeping}
use Rattle.run_places.specs.Given.ReservesDeclared.sweep.Sweeping.TheVariants as sweeping
use Rattle.run_places.specs.Given.RawCall.{makes_of, call_plan, looked, looks_for, first_made, next_made, disposed, helped, copied}
use Rattle.run_places.specs.Given.RawCall as calls
use Rattle.run_places.specs.Given.RawCallFills.{putting_by, fill_by, fills_with}
use Rattle.run_places.specs.Given.RawReplies.{value_for, as_own}
use Rattle.run_places.specs.Given.RawDeclared.machines.asking.Asking.TheVariants as asking
use Rattle.run_places.specs.Given.RawDeclared.machines.call.Calling.{Calling}
use Rattle.run_places.specs.Given.RawDeclared.machines.call.Calling.TheVariants as calling
use Rattle.run_places.specs.Given.RawDeclared.machines.call.KeyCall.{KeyCall}
use Rattle.run_places.specs.Given.TellsSeen.{seen_of}
use Rattle.run_places.specs.Given.TellerTells.{observed_of, StepsObserved}
use Rattle.run_places.specs.Given.EffectsDeclared.changed.Changed.{Changed}
use Rattle.run_places.specs.Given.EffectsDeclared.changed.Changed.TheVariants as changed

module _ (P : ℕ → Type 0) where
  -- it is so of the block of a user's word
  abbrev pub AimsAt : At → Type 0
  AimsAt (Word b field) = P b
  AimsAt _ = Unit {0}

  -- what is told as written was written so
  at_word : (at : At) (b field was word old new : ℕ) → changed.Wrote at was word ≡ changed.Wrote (Word b field) old new → AimsAt at → P b
  at_word at b field was word old new e so = (let same : at ≡ Word b field = cc e in subst AimsAt same so)

  -- a row that is about to put a block behind this one
  abbrev pub DeferringAims : Defer → Deferring → Type 0
  DeferringAims c (deferring.Pushes head) = AimsAt c.table_word
  DeferringAims c _ = Unit {0}

  abbrev pub DeferAims : Defer → Type 0
  DeferAims c = DeferringAims c c.stands

  abbrev pub DisposeAims : Disposing → Type 0
  DisposeAims (disposing.Defers defer) = DeferAims defer
  DisposeAims _ = Unit {0}

  -- a making writes its table's status, and the link to that
  abbrev pub MakingAims : NewTable → Making → Type 0
  MakingAims c (making.Promotes table) = P (block_in table.link)
  MakingAims c (making.Links table) = AimsAt c.link
  MakingAims c _ = Unit {0}

  abbrev pub NewAims : NewTable → Type 0
  NewAims c = MakingAims c c.stands

  -- a copier writes words of the table that it copies, and of those that it copies into
  abbrev pub CopyingAims : Copier → Copying → Type 0
  CopyingAims c copying.Claims = P (block_in c.target.link)
  CopyingAims c copying.Marks = P (block_in c.source.link)
  CopyingAims c (copying.Puts word code table probe) = P (block_in table.link)
  CopyingAims c (copying.Covers word) = P (block_in c.source.link)
  CopyingAims c (copying.Grows word code n) = NewAims n
  CopyingAims c copying.Aborts = P (block_in c.target.link)
  CopyingAims c (copying.Remakes n) = NewAims n
  CopyingAims c copying.Counts = P (block_in c.target.link)
  CopyingAims c (copying.Tallies word fault) = P (block_in c.target.link)
  CopyingAims c (copying.Unmarks word fault) = P (block_in c.source.link)
  CopyingAims c (copying.Unclaims fault) = P (block_in c.target.link)
  CopyingAims c copying.Announces = P (block_in c.target.link)
  CopyingAims c _ = Unit {0}

  abbrev pub CopierAims : Copier → Type 0
  CopierAims c = CopyingAims c c.stands

  abbrev pub ReservingAims : Reserving → Type 0
  ReservingAims (reserving.Makes n) = NewAims n
  ReservingAims (reserving.Grows table n) = NewAims n
  ReservingAims (reserving.Copies copier) = CopierAims copier
  ReservingAims _ = Unit {0}

  -- a sweep that counts is told of elsewhere
  abbrev pub SweepingAims : Sweep → Sweeping → Type 0
  SweepingAims c (sweeping.Copies copier) = CopierAims copier
  SweepingAims c (sweeping.Tries word) = P (block_in c.table.link)
  SweepingAims c (sweeping.Counts removed) = ⊥
  SweepingAims c (sweeping.Disposes dispose) = DisposeAims dispose.stands
  SweepingAims c _ = Unit {0}

  module _ {K V : Type 0} where
    -- an operation writes no users' word, or one of such a block
    abbrev pub AimsSo : Op (Node K V) → Type 0
    AimsSo (Store at word) = AimsAt at
    AimsSo (Swap at word) = AimsAt at
    AimsSo (Add at by) = AimsAt at
    AimsSo (Or at bits) = AimsAt at
    AimsSo (Exchange at before word) = AimsAt at
    AimsSo _ = Unit {0}

    abbrev pub PlanAims : {R : Type 0} → Plan (Node K V) R → Type 0
    PlanAims (Turn rest) = Unit {0}
    PlanAims (Do op rest) = AimsSo op

    pub aims_as : {A B : Type 0} (f : A → B) (plan : Plan (Node K V) A) → PlanAims plan → PlanAims (plan_as f plan)
    aims_as f (Turn rest) so = so
    aims_as f (Do op rest) so = so

    op_aimed : (m : Mem (Node K V)) (op : Op (Node K V)) (out : Out (Node K V)) (b field old new : ℕ) → observed_of op out (seen_of m op out) ≡ changed.Wrote (Word b field) old new → AimsSo op → P b
    op_aimed m (Load at) out b field old new e so = absurd (cc e)
    op_aimed m (Store at word) out b field old new e so = at_word at b field _ _ old new e so
    op_aimed m (Swap at word) (Found before) b field old new e so = at_word at b field _ _ old new e so
    op_aimed m (Swap at word) _ b field old new e so = absurd (cc e)
    op_aimed m (Add at by) (Found before) b field old new e so = at_word at b field _ _ old new e so
    op_aimed m (Add at by) _ b field old new e so = absurd (cc e)
    op_aimed m (Or at bits) (Found before) b field old new e so = at_word at b field _ _ old new e so
    op_aimed m (Or at bits) _ b field old new e so = absurd (cc e)
    op_aimed m (Exchange at before word) (Exchanged (Ok found)) b field old new e so = at_word at b field _ _ old new e so
    op_aimed m (Exchange at before word) (Exchanged (Err found)) b field old new e so = absurd (cc e)
    op_aimed m (Exchange at before word) _ b field old new e so = absurd (cc e)
    op_aimed m (Make value words) (Made (Ok x)) b field old new e so = absurd (cc e)
    op_aimed m (Make value words) (Made (Err back)) b field old new e so = absurd (cc e)
    op_aimed m (Make value words) _ b field old new e so = absurd (cc e)
    op_aimed m (Take x) out b field old new e so = absurd (cc e)
    op_aimed m (Rewrite x value) out b field old new e so = absurd (cc e)
    op_aimed m (Room bucket) (Roomed roomed) b field old new e so = absurd (cc e)
    op_aimed m (Room bucket) _ b field old new e so = absurd (cc e)

    pub plan_aimed : {R : Type 0} (m m2 : Mem (Node K V)) (told : Changed) (plan : Plan (Node K V) R) (end : R) → StepsObserved K V R m changed.Nothing plan m2 told end → PlanAims plan
        → (b field old new : ℕ) → told ≡ changed.Wrote (Word b field) old new → P b
    plan_aimed m m2 told (Turn rest) end steps so b field old new is = absurd (let nothing = steps.2 in cc (nothing, is))
    plan_aimed m m2 told (Do op rest) end steps so b field old new is = op_aimed m op steps.0 b field old new (sym steps.1.1 ∙ is) so

    -- and so is a call on one key
    abbrev pub CallingAims : KeyCall K V K → Calling → Type 0
    CallingAims c (calling.Tries word new) = AimsAt (place_tried c.trial)
    CallingAims c (calling.Counts removed) = ⊥
    CallingAims c (calling.Firsts n) = NewAims n
    CallingAims c (calling.Allocs n) = NewAims n
    CallingAims c (calling.Helps copier goal) = CopierAims copier
    CallingAims c (calling.Copies copier) = CopierAims copier
    CallingAims c (calling.Disposes dispose answer) = DisposeAims dispose.stands
    CallingAims c _ = Unit {0}

  module _ (K V : Type 0) where
    -- each plan, at whatever point

    settle_at : (c : Settle) (p : Settling) → PlanAims (settles.plan_at (deferred_word {K = K} {V = V}) c p)
    settle_at c settling.Sees = tt
    settle_at c _ = tt

    defer_at : (c : Defer) (p : Deferring) → DeferringAims c p → PlanAims (defers.plan_at {T = Node K V} c p)
    defer_at c deferring.Reads so = tt
    defer_at c (deferring.Links head) so = tt
    defer_at c (deferring.Pushes head) so = so
    defer_at c deferring.Over so = tt

    dispose_at : (c : Dispose) (p : Disposing) → DisposeAims p → PlanAims (disposes.plan_at {K = K} {V = V} c p)
    dispose_at c (disposing.Settles settle) so = aims_as (disposes.settled c) (settle_plan deferred_word settle) (settle_at settle settle.stands)
    dispose_at c disposing.Reads so = tt
    dispose_at c (disposing.Walks table) so = tt
    dispose_at c (disposing.Defers defer) so = aims_as (disposes.deferred c) (defer_plan defer) (defer_at defer defer.stands so)
    dispose_at c disposing.Over so = tt

    lookup_at : (keys : K → Bool) (c : Lookup) (p : Looking) → PlanAims (lookups.plan_at {V = V} keys c p)
    lookup_at keys c looking.Roots = tt
    lookup_at keys c (looking.Probes trial) = tt
    lookup_at keys c (looking.Nexts table) = tt
    lookup_at keys c (looking.Over found) = tt

    pub sum_at : (c : Sum) (p : Summing) → PlanAims (sums.plan_at {T = Node K V} c p)
    sum_at c (summing.Adds shard total) = tt
    sum_at c (summing.Over count) = tt

    pub table_at : (c : NewTable) (p : Making) → MakingAims c p → PlanAims (tables.plan_at {K = K} {V = V} c p)
    table_at c (making.Sums before reason sum) so = aims_as (tables.counted c before reason) (sum_plan sum) (sum_at sum sum.stands)
    table_at c (making.Makes table) so = tt
    table_at c (making.Promotes table) so = so
    table_at c (making.Links table) so = so
    table_at c (making.Drops table found) so = tt
    table_at c (making.Over table) so = tt
    table_at c (making.Refused fault) so = tt

    copier_at : (hash : K → ℕ) (c : Copier) (p : Copying) → CopyingAims c p → PlanAims (copiers.plan_at {V = V} hash c p)
    copier_at hash c copying.Begins so = tt
    copier_at hash c copying.Claims so = so
    copier_at hash c copying.Marks so = so
    copier_at hash c (copying.Puts word code table probe) so = so
    copier_at hash c (copying.Covers word) so = so
    copier_at hash c (copying.Grows word code n) so = aims_as (grown c word code) (new_table_plan n) (table_at n n.stands so)
    copier_at hash c copying.Aborts so = so
    copier_at hash c (copying.Remakes n) so = aims_as (remade c) (new_table_plan n) (table_at n n.stands so)
    copier_at hash c copying.Counts so = so
    copier_at hash c (copying.Tallies word fault) so = so
    copier_at hash c (copying.Unmarks word fault) so = so
    copier_at hash c (copying.Unclaims fault) so = so
    copier_at hash c copying.Announces so = so
    copier_at hash c (copying.Retires settle rest) so = aims_as (retired c rest) (settle_plan deferred_word settle) (settle_at settle settle.stands)
    copier_at hash c _ so = tt

    reserve_at : (hash : K → ℕ) (c : Reserve) (p : Reserving) → ReservingAims p → PlanAims (reserves.plan_at {V = V} hash c p)
    reserve_at hash c reserving.Reads so = tt
    reserve_at hash c (reserving.Makes n) so = aims_as (reserves.made c) (new_table_plan n) (table_at n n.stands so)
    reserve_at hash c (reserving.Sums table sum) so = aims_as (reserves.summed c table) (sum_plan sum) (sum_at sum sum.stands)
    reserve_at hash c (reserving.Follows table need) so = tt
    reserve_at hash c (reserving.Grows table n) so = aims_as (reserves.grown c table) (new_table_plan n) (table_at n n.stands so)
    reserve_at hash c (reserving.Copies copier) so = aims_as (reserves.copied c) (copier_plan hash copier) (copier_at hash copier copier.stands so)
    reserve_at hash c reserving.Over so = tt
    reserve_at hash c (reserving.Refused fault) so = tt

    pub reserve_aims : (hash : K → ℕ) (c : Reserve) → ReservingAims c.stands → PlanAims (reserve_plan {V = V} hash c)
    reserve_aims hash c so = reserve_at hash c c.stands so

    sweep_at : (hash : K → ℕ) (c : Sweep) (p : Sweeping) → SweepingAims c p → PlanAims (sweeps.plan_at {V = V} hash c p)
    sweep_at hash c sweeping.Reads so = tt
    sweep_at hash c sweeping.Follows so = tt
    sweep_at hash c (sweeping.Copies copier) so = aims_as (sweeps.copied c) (copier_plan hash copier) (copier_at hash copier copier.stands so)
    sweep_at hash c sweeping.Words so = tt
    sweep_at hash c (sweeping.Tries word) so = so
    sweep_at hash c (sweeping.Counts removed) so = absurd so
    sweep_at hash c (sweeping.Disposes dispose) so = aims_as (sweeps.disposed c) (dispose_plan dispose) (dispose_at dispose dispose.stands so)
    sweep_at hash c sweeping.Ready so = tt
    sweep_at hash c (sweeping.Asks word) so = tt
    sweep_at hash c sweeping.Over so = tt
    sweep_at hash c (sweeping.Refused fault) so = tt

    pub sweep_aims : (hash : K → ℕ) (c : Sweep) → SweepingAims c c.stands → PlanAims (sweep_plan {V = V} hash c)
    sweep_aims hash c so = sweep_at hash c c.stands so

    module _ (asks : K → K → Bool) (same : K → K → Bool) (hash : K → ℕ) (c : KeyCall K V K) where
      looks_at : (lookup : Lookup) (asked : Option K) → PlanAims (looks_for asks c lookup asked)
      looks_at lookup (Some q) = aims_as (looked c) (lookup_plan (asks q) lookup) (lookup_at (asks q) lookup lookup.stands)
      looks_at lookup None = tt

      makes_at : (unmade : Option (Node K V)) → PlanAims (makes_of c unmade)
      makes_at (Some value) = tt
      makes_at None = tt

      call_at : (p : Calling) → CallingAims c p → PlanAims (calls.plan_at asks same hash c p)
      call_at calling.Makes so = makes_at c.unmade
      call_at (calling.Looks lookup) so = looks_at lookup c.asked
      call_at calling.Roots so = tt
      call_at calling.Probes so = tt
      call_at (calling.Tries word new) so = so
      call_at (calling.Counts removed) so = absurd so
      call_at calling.Nexts so = tt
      call_at (calling.Firsts n) so = aims_as (first_made c) (new_table_plan n) (table_at n n.stands so)
      call_at (calling.Allocs n) so = aims_as (next_made c) (new_table_plan n) (table_at n n.stands so)
      call_at (calling.Helps copier goal) so = aims_as (helped c goal) (copier_plan hash copier) (copier_at hash copier copier.stands so)
      call_at (calling.Copies copier) so = aims_as (copied c) (copier_plan hash copier) (copier_at hash copier copier.stands so)
      call_at (calling.Asks (asking.Absent gap)) so = tt
      call_at (calling.Asks (asking.Present word)) so = tt
      call_at (calling.Asks (asking.Fills word)) so = fills_at c.replies.key
        where
          putting : (b : Bool) (d : KeyCall K V K) (key : K) (value : V) → PlanAims (putting_by b d word key value)
          putting true d key value = tt
          putting false d key value = tt

          filling : (o : Option V) (d : KeyCall K V K) (key : K) → PlanAims (fill_by o d word key)
          filling (Some value) d key = putting (d.own == 0) (record d { replies = record d.replies { key = None } }) key value
          filling None d key = tt

          fills_at : (key : Option K) → PlanAims (fills_with key c word)
          fills_at (Some key) = filling (value_for c.replies word) (record c { replies = as_own c.replies word }) key
          fills_at None = tt
      call_at (calling.Asks (asking.GivesUp word)) so = tt
      call_at (calling.Disposes dispose answer) so = aims_as (disposed c answer) (dispose_plan dispose) (dispose_at dispose dispose.stands so)
      call_at (calling.Drops end) so = tt
      call_at (calling.Over end) so = tt

      pub call_aims : CallingAims c c.stands → PlanAims (call_plan asks same hash c)
      call_aims so = call_at c.stands so
