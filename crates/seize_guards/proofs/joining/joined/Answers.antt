use Rattle.seize_guards.proofs.Chains.{is_joined, joined_value}
use Rattle.seize_guards.proofs.joining.joined.Goals as goal

pub value-requires-clause-shown : goal.value-requires-clause-shown
value-requires-clause-shown g c = let s = c.args.seat.now in is_joined g.T.Defers.defers c.args.blocks.now.words.fixed s.id s.view c.args.block c.args._below c.requires.joins

pub returns : goal.returns
returns g c =
    let s = c.args.seat.now in
    record {
      same = λ value is. joined_value g.T.Defers.defers c.args.blocks.now.words.fixed s.id s.view c.args.block c.args._below value c.value.result.now is c.value.ensures;
    }
