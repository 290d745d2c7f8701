-- A step by which no block is refused: what the making and the copying of a table, a reservation and a sweep are to be refused for stays of one kind, which need not be want of memory.
use Rattle.std.specs.Prelude.{◌≡◌, ℕ, ◌+◌, ◌%◌, ◌^◌, Err}
use Rattle.std.proofs.Common.{ap, sym, subst, ◌∙◌}
use Rattle.run_debts.specs.Given.SeizeWordsMem.{Mem, value_at}
use Rattle.run_debts.specs.Given.SeizeWordsOp.{Out, Make, Made}
use Rattle.run_debts.specs.Given.SeizeWordsPlan.{Plan}
use Rattle.run_debts.specs.Given.SeizeWordsDeclared.fault.Fault.{Fault}
use Rattle.run_debts.specs.Given.SeizeWordsDeclared.fault.Fault.TheVariants.{Capacity}
use Rattle.run_debts.specs.Given.SeizeSettle.{settle_plan}
use Rattle.run_debts.specs.Given.SeizeDeclared.advance.Advance.{Advance as Counting}
use Rattle.run_debts.specs.Given.TablesNodes.{deferred_word}
use Rattle.run_debts.specs.Given.TablesDeclared.node.Node.{Node}
use Rattle.run_debts.specs.Given.TablesDeclared.node.Node.TheVariants as node
use Rattle.run_debts.specs.Given.TablesDeclared.table.Table.{Table}
use Rattle.run_debts.specs.Given.TablesDeclared.table_words.TheConstants.{PLACES}
use Rattle.owner_calls.specs.Given.ResizeCopier.{copier_plan}
use Rattle.owner_calls.specs.Given.ResizeCopier as copiers
use Rattle.owner_calls.specs.Given.ResizeCopierFurther.{grown, remade}
use Rattle.owner_calls.specs.Given.ResizeCopierPromotes.{retired}
use Rattle.owner_calls.specs.Given.ResizeDispose.{dispose_plan}
use Rattle.owner_calls.specs.Given.ResizeNewTable.{new_table_plan}
use Rattle.owner_calls.specs.Given.ResizeNewTable as tables
use Rattle.owner_calls.specs.Given.ResizeSum.{sum_plan}
use Rattle.owner_calls.specs.Given.ResizeDeclared.copier.Copier.{Copier}
use Rattle.owner_calls.specs.Given.ResizeDeclared.copier.Copying.{Copying}
use Rattle.owner_calls.specs.Given.ResizeDeclared.copier.Copying.TheVariants as copying
use Rattle.owner_calls.specs.Given.ResizeDeclared.new_table.NewTable.{NewTable}
use Rattle.owner_calls.specs.Given.ResizeDeclared.new_table.Making.{Making}
use Rattle.owner_calls.specs.Given.ResizeDeclared.new_table.Making.TheVariants as making
use Rattle.owner_calls.specs.Given.ResizeDeclared.yielding.Yielding.{Yielding}
use Rattle.owner_calls.specs.Given.ReservesReserve.{reserve_plan}
use Rattle.owner_calls.specs.Given.ReservesReserve as reserves
use Rattle.run_debts.specs.Given.ReservesDeclared.reserve.Reserve.{Reserve}
use Rattle.run_debts.specs.Given.ReservesDeclared.reserve.Reserving.{Reserving}
use Rattle.run_debts.specs.Given.ReservesDeclared.reserve.Reserving.TheVariants as reserving
use Rattle.owner_calls.specs.Given.SweepsSweep.{sweep_plan}
use Rattle.owner_calls.specs.Given.SweepsSweep as sweeps
use Rattle.run_debts.specs.Given.ReservesDeclared.sweep.Sweep.{Sweep}
use Rattle.run_debts.specs.Given.ReservesDeclared.sweep.Sweeping.{Sweeping}
use Rattle.run_debts.specs.Given.ReservesDeclared.sweep.Sweeping.TheVariants as sweeping
use Rattle.run_debts.specs.Given.ReservesDeclared.sweep.Swept.{Swept}
use Rattle.owner_calls.proofs.Given.RuleKeys.Always.{AlwaysOf, always_ends, always_steps}
use Rattle.owner_calls.specs.Given.LateFaults.{SoInMaking, SoInCopying, SoInReserving, SoInSweeping}
use Rattle.owner_calls.proofs.Given.LateKindsKept.Rooms.Copying as copies_so
use Rattle.owner_calls.proofs.Given.LateKindsKept.Rooms.Copying.{CopiesFor}
use Rattle.owner_calls.proofs.Given.LateKindsKept.Rooms.Making.{CountsOn, MakesFor, counted_so, made_so, plain_so, sum_counts}
use Rattle.owner_calls.proofs.Given.LateKindsKept.Rooms.Reserving as reserves_so
use Rattle.owner_calls.proofs.Given.LateKindsKept.Rooms.Reserving.{ReservesFor}
use Rattle.owner_calls.proofs.Given.LateKindsKept.Rooms.Sweeping as sweeps_so
use Rattle.owner_calls.proofs.Given.LateKindsKept.Rooms.Sweeping.{SweepsFor}
use Rattle.run_debts.specs.Given.TellsSeen.{seen_of}
use Rattle.run_debts.specs.Given.TellerTells.{observed_of}
use Rattle.run_debts.specs.Given.EffectsDeclared.changed.Changed.{Changed}
use Rattle.run_debts.specs.Given.EffectsDeclared.changed.Changed.TheVariants as changed
use Rattle.run_debts.specs.Given.EffectsDeclared.changed.Kind.{Kind}
use Rattle.run_debts.proofs.Given.OthersOutcomes.{told_in}
use Rattle.run_blocks.proofs.Owes.Tables.Hosts.{Step}
use Rattle.run_debts.proofs.Given.ScenesTold.{as_step}

module _ (Is : Fault → Type 0) (long : Is Capacity) {K V : Type 0} (m m2 : Mem (Node K V)) (told : Changed) (unrefused : (k : Kind) → told ≡ changed.Unmade k → ⊥) where
  -- a block that was to be made was
  pub was_made : (value : Node K V) (words : ℕ) (out : Out (Node K V)) → told ≡ observed_of (Make value words) out (seen_of m (Make value words) out) → (back : Node K V) → out ≡ Made (Err back) → ⊥
  was_made value words out is back refused = unrefused _ (is ∙ ap (λ (x : Out (Node K V)). observed_of (Make value words) x (seen_of m (Make value words) x)) refused)

  -- what is so of each outcome is so of this one
  pub so_always : {R : Type 0} (P : R → Type 0) (plan : Plan (Node K V) R) (end : R) → AlwaysOf P plan → Step m m2 told plan end → P end
  so_always P plan end always s = always_steps P m m2 plan end always (as_step m changed.Nothing plan m2 told end s)

  -- of the making of a table
  pub table_so : (n : NewTable) → SoInMaking Is n.stands → (end : NewTable × Counting Table) → Step m m2 told (new_table_plan n) end → MakesFor Is end
  table_so n here end s = by n.stands here s
    where
      by : (stage : Making) → SoInMaking Is stage → Step m m2 told (tables.plan_at n stage) end → MakesFor Is end
      by (making.Sums before reason sum) so s =
          let it = told_in m m2 told (tables.counted n before reason) (sum_plan sum) end s in
          subst (MakesFor Is) (sym it.1) (counted_so Is long n before reason it.0 (so_always CountsOn (sum_plan sum) it.0 (sum_counts (Node K V) sum) it.2))
      by (making.Makes table) so s =
          always_ends (MakesFor Is) (value_at m2) (tables.made n table s.0) end
          (made_so Is long n here table s.0 (λ value refused. absurd (was_made (node.Table table.len table.limit table.turn) ((table.len + PLACES) % 2 ^ 64) s.0 s.1.1 value refused))) s.2
      by stage so s = so_always (MakesFor Is) (tables.plan_at n stage) end (plain_so Is long n K V here stage tt so) s

  -- of its copying
  module _ (hash : K → ℕ) (p : Copier) (here : SoInCopying Is p.stands) where
    abbrev Copied : Copier × Yielding (Node K V) Table → Type 0
    Copied end = CopiesFor Is end

    pub copier_so : (end : Copier × Yielding (Node K V) Table) → Step m m2 told (copier_plan hash p) end → CopiesFor Is end
    copier_so end s = by p.stands here s
      where
        by : (stage : Copying) → SoInCopying Is stage → Step m m2 told (copiers.plan_at hash p stage) end → Copied end
        by (copying.Grows word code n) so s =
            let it = told_in m m2 told (grown p word code) (new_table_plan n) end s in
            subst Copied (sym it.1) (copies_so.grown_so Is long K V hash p word code it.0 (table_so n so it.0 it.2))
        by (copying.Remakes n) so s =
            let it = told_in m m2 told (remade p) (new_table_plan n) end s in subst Copied (sym it.1) (copies_so.remade_so Is long K V hash p it.0 (table_so n so it.0 it.2))
        by (copying.Retires settle rest) so s =
            let it = told_in m m2 told (retired p rest) (settle_plan deferred_word settle) end s in subst Copied (sym it.1) (copies_so.settled_so Is long K V hash p rest it.0)
        by stage so s = so_always Copied (copiers.plan_at hash p stage) end (copies_so.own_so Is long K V hash p here stage tt so) s

  -- of a reservation
  module _ (hash : K → ℕ) (p : Reserve) (here : SoInReserving Is p.stands) where
    abbrev Reserved : Reserve × Yielding (Node K V) Unit → Type 0
    Reserved end = ReservesFor Is end

    pub reserve_so : (end : Reserve × Yielding (Node K V) Unit) → Step m m2 told (reserve_plan hash p) end → ReservesFor Is end
    reserve_so end s = by p.stands here s
      where
        by : (stage : Reserving) → SoInReserving Is stage → Step m m2 told (reserves.plan_at hash p stage) end → Reserved end
        by (reserving.Makes n) so s =
            let it = told_in m m2 told (reserves.made p) (new_table_plan n) end s in subst Reserved (sym it.1) (reserves_so.made_so Is long K V hash p it.0 (table_so n so it.0 it.2))
        by (reserving.Sums table sum) so s =
            let it = told_in m m2 told (reserves.summed p table) (sum_plan sum) end s in
            subst Reserved (sym it.1) (reserves_so.summed_so Is long K V hash p table it.0 (so_always CountsOn (sum_plan sum) it.0 (sum_counts (Node K V) sum) it.2))
        by (reserving.Grows table n) so s =
            let it = told_in m m2 told (reserves.grown p table) (new_table_plan n) end s in
            subst Reserved (sym it.1) (reserves_so.grown_so Is long K V hash p table it.0 (table_so n so it.0 it.2))
        by (reserving.Copies copier) so s =
            let it = told_in m m2 told (reserves.copied p) (copier_plan hash copier) end s in
            subst Reserved (sym it.1) (reserves_so.copied_so Is long K V hash p it.0 (copier_so hash copier so it.0 it.2))
        by stage so s = so_always Reserved (reserves.plan_at hash p stage) end (reserves_so.own_so Is long K V hash p here stage tt so) s

  -- of a sweep
  module _ (hash : K → ℕ) (c : Sweep) (here : SoInSweeping Is c.stands) where
    abbrev Comes : Sweep × Swept (Node K V) → Type 0
    Comes end = SweepsFor Is end

    pub sweep_so : (end : Sweep × Swept (Node K V)) → Step m m2 told (sweep_plan hash c) end → SweepsFor Is end
    sweep_so end s = by c.stands here s
      where
        by : (stage : Sweeping) → SoInSweeping Is stage → Step m m2 told (sweeps.plan_at hash c stage) end → Comes end
        by (sweeping.Copies copier) so s =
            let it = told_in m m2 told (sweeps.copied c) (copier_plan hash copier) end s in
            subst Comes (sym it.1) (sweeps_so.copied_so Is K V hash c it.0 (copier_so hash copier so it.0 it.2))
        by (sweeping.Disposes dispose) so s =
            let it = told_in m m2 told (sweeps.disposed c) (dispose_plan dispose) end s in subst Comes (sym it.1) (sweeps_so.disposed_so Is K V hash c it.0)
        by stage so s = so_always Comes (sweeps.plan_at hash c stage) end (sweeps_so.own_so Is K V hash c here stage tt so) s
