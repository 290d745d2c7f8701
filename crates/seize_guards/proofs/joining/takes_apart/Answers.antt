use Rattle.seize_guards.proofs.Chains.{may_take_apart, apart_told, apart_value}
use Rattle.seize_guards.proofs.joining.takes_apart.Goals as goal

pub take-requires-clause-may : goal.take-requires-clause-may
take-requires-clause-may g c = let s = c.args.seat.now in may_take_apart g.T.Defers.defers c.args.blocks.now.words.fixed s.id s.view c.args.block c.args._below c.requires.joins

pub returns-clause-rests : goal.returns-clause-rests
returns-clause-rests g c =
    apart_told g.T.Defers.defers c.args.seat.now.view.knows c.take.new.seat.view.knows c.args.block c.args._below c.take.result c.requires.joins
    c.take.ensures.goes.0

pub returns-clause-back : goal.returns-clause-back
returns-clause-back g c = λ value is.
    apart_value g.T.Defers.defers c.args.seat.now.view.knows c.take.new.seat.view.knows c.args.block c.args._below value c.take.result is c.take.ensures.goes.0
