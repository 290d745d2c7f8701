use Rattle.seize_guards.proofs.Chains.{may_name, named_told, named_still}
use Rattle.seize_guards.proofs.joining.names_below.Goals as goal

pub store-requires-clause-may : goal.store-requires-clause-may
store-requires-clause-may g c = let s = c.args.seat.now in may_name g.T.Defers.defers c.args.blocks.now.words.fixed s.id s.view c.args.block c.args._below c.args.word c.requires.joins

pub returns-clause-joins : goal.returns-clause-joins
returns-clause-joins g c = λ value is.
    named_told g.T.Defers.defers c.args.seat.now.view.knows c.store.new.seat.view.knows c.args.block c.args._below c.args.word value is c.store.ensures.goes.0

pub returns-clause-still : goal.returns-clause-still
returns-clause-still g c =
    named_still g.T.Defers.defers c.args.seat.now.view.knows c.store.new.seat.view.knows c.args.block c.args._below c.args.word c.requires.joins
    c.store.ensures.goes.0
