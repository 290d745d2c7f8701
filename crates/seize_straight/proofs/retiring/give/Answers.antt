-- The batch stands where its count says.
use Rattle.std.specs.Prelude.{◌+◌, ◌%◌, ◌^◌}
use Rattle.std.proofs.Common.{subst}
use Rattle.std.proofs.lemmas.Bool.{le-ltb, lt-ltb}
use Rattle.seize.specs.Settle.{settle_plan}
use Rattle.seize.specs.declared.rows.settle.Settle.{Settle}
use Rattle.seize.specs.declared.rows.settle.Settling.TheVariants as at
use Rattle.seize_straight.specs.Going.{SettleGoes}
use Rattle.seize_straight.specs.Retiring.{grown, holding}
use Rattle.seize_straight.specs.Runs.{Leads, none_taken}
use Rattle.seize_straight.proofs.Retirements as by
use Rattle.seize_straight.proofs.Running.{Led, begins, next}
use Rattle.seize_straight.proofs.retiring.give.Given as given
use Rattle.seize_straight.proofs.retiring.give.Goals as goal
use Rattle.seize_straight.proofs.retiring.give.Goals.{Else-pending-ne0}

-- the batch is to be given up
gives : (g : given.Over) (c : goal.Else-pending-ne0 g)
    → Led SettleGoes g.M.Look.took g.M.Look.shown (settle_plan g.T.Defers.defers) g.M.Look.can (grown c.args.slot c.args.batch_size c.args.pending c.args.block c.args.first c.args.count) c.args.memory.now
    (holding c.args.slot c.args.batch_size c.args.pending c.args.block c.args.first at.Gives) c.args.memory.now
gives g c =
    subst (λ (s : Settle). Led SettleGoes g.M.Look.took g.M.Look.shown (settle_plan g.T.Defers.defers) g.M.Look.can
    (grown c.args.slot c.args.batch_size c.args.pending c.args.block c.args.first c.args.count) c.args.memory.now s c.args.memory.now)
    (by.is_given c.args.slot c.args.batch_size c.args.pending c.args.block c.args.first c.args.count (lt-ltb ((c.args.count + 1) % 2 ^ 64) c.args.batch_size c.if-count-batch_size.false) c.if-pending-ne0.false)
    (begins c.requires)

pub returns-then-count-batch_size : goal.returns-then-count-batch_size
returns-then-count-batch_size g c =
    subst (λ (s : Settle). Leads SettleGoes g.M.Look.took g.M.Look.shown (settle_plan g.T.Defers.defers) (grown c.args.slot c.args.batch_size c.args.pending c.args.block c.args.first c.args.count) c.args.memory.now s c.args.memory.now)
    (by.is_full c.args.slot c.args.batch_size c.args.pending c.args.block c.args.first c.args.count (le-ltb ((c.args.count + 1) % 2 ^ 64) c.args.batch_size c.if-count-batch_size.true)) (none_taken _ _)

pub returns-then-pending-ne0 : goal.returns-then-pending-ne0
returns-then-pending-ne0 g c =
    subst (λ (s : Settle). Leads SettleGoes g.M.Look.took g.M.Look.shown (settle_plan g.T.Defers.defers) (grown c.args.slot c.args.batch_size c.args.pending c.args.block c.args.first c.args.count) c.args.memory.now s c.args.memory.now)
    (by.is_further c.args.slot c.args.batch_size c.args.pending c.args.block c.args.first c.args.count (lt-ltb ((c.args.count + 1) % 2 ^ 64) c.args.batch_size c.if-count-batch_size.false) c.if-pending-ne0.true)
    (none_taken _ _)

pub store-requires : goal.store-requires
store-requires g c =
    (next (gives g (goal.at.store-requires g c).Else-pending-ne0)).0

pub returns : goal.returns
returns g c =
    by.gave g.T.Defers.defers (gives g (goal.at.returns g c).Else-pending-ne0) c.store.ensures
