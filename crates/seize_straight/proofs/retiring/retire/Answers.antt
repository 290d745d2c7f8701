-- Each operation is the settling's next one.
use Rattle.seize.specs.declared.rows.settle.Settling.TheVariants as at
use Rattle.seize_straight.specs.Retiring.{holding}
use Rattle.seize_straight.specs.Runs.{none_taken}
use Rattle.seize_straight.proofs.Retirements as by
use Rattle.seize_straight.proofs.Running.{begins, next, on_from, reaches_to}
use Rattle.seize_straight.proofs.retiring.retire.Given as given
use Rattle.seize_straight.proofs.retiring.retire.Goals as goal
use Rattle.seize_straight.proofs.retiring.retire.Goals.{In-Ok}

held : (g : given.Over) (c : goal.In-Ok g) → by.Comes g.T.Defers.defers g.M.Look.can g.M.Look.took g.M.Look.shown c.args.slot c.args.batch_size c.args.block c.args.memory.now (holding c.args.slot c.args.batch_size c.args.block c.load-word.result 0 at.Pops) c.exchange.new.self
held g c = by.held g.T.Defers.defers (by.seen g.T.Defers.defers (begins c.requires) c.load-word.ensures c.if-word-eq-HELD.false) c.in-Ok.ensures c.if-block-eq0.false

pub returns-then-block-eq0 : goal.returns-then-block-eq0
returns-then-block-eq0 g c =
    none_taken _ _

pub load-word-requires : goal.load-word-requires
load-word-requires g c =
    (next (begins c.requires)).0

pub returns-then-word-eq-HELD : goal.returns-then-word-eq-HELD
returns-then-word-eq-HELD g c =
    (by.waits g.T.Defers.defers (begins c.requires) c.load-word.ensures c.if-word-eq-HELD.true).leads

pub exchange-requires : goal.exchange-requires
exchange-requires g c =
    (next (by.seen g.T.Defers.defers (begins c.requires) c.load-word.ensures c.if-word-eq-HELD.false)).0

pub returns-in-Err : goal.returns-in-Err
returns-in-Err g c =
    (by.lost g.T.Defers.defers (by.seen g.T.Defers.defers (begins c.requires) c.load-word.ensures c.if-word-eq-HELD.false) c.in-Err.ensures).leads

pub open-requires : goal.open-requires
open-requires g c =
    on_from (by.held_none g.T.Defers.defers (held g (goal.at.open-requires g c).In-Ok) c.if-word-eq0.true)

pub returns-then-word-eq0 : goal.returns-then-word-eq0
returns-then-word-eq0 g c =
    reaches_to (by.held_none g.T.Defers.defers (held g (goal.at.returns-then-word-eq0 g c).In-Ok) c.if-word-eq0.true) c.open.new.memory _ c.open.ensures

pub append-requires-clause-may : goal.append-requires-clause-may
append-requires-clause-may g c =
    on_from (held g (goal.at.append-requires-clause-may g c).In-Ok)

pub returns : goal.returns
returns g c =
    reaches_to (held g (goal.at.returns g c).In-Ok) c.append.new.memory _ c.append.ensures
