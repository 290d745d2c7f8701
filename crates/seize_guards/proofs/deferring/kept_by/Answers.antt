use Rattle.std.proofs.Common.{sym, ◌∙◌}
use Rattle.seize_guards.proofs.Deferrals.{first_shown, second_shown, keeps_if}
use Rattle.seize_guards.proofs.deferring.kept_by.Goals as goal

pub value-requires-clause-shown : goal.value-requires-clause-shown
value-requires-clause-shown g c =
    let s = c.args.seat.now in let i = c.requires.parts in
    first_shown g.T.Defers.defers c.args.blocks.now.words.fixed s.id s.view c.args._slot c.args.seen c.args.block i.0 i.1 i.2

pub value-requires-2-clause-shown : goal.value-requires-2-clause-shown
value-requires-2-clause-shown g c =
    let s = c.args.seat.now in let i = c.requires.parts in
    second_shown g.T.Defers.defers c.args.blocks.now.words.fixed s.id s.view c.args._slot c.args.seen c.args.block i.0 i.1 i.2

pub returns-in-None : goal.returns-in-None
returns-in-None g c =
    let s = c.args.seat.now in
    record {
      keeps = keeps_if g.T.Defers.defers c.args.blocks.now.words.fixed s.id s.view c.args._slot c.args.seen c.args.block c.deferred-field.result c.value.result.now c.value-2.result.now
          c.deferred-field.ensures (sym c.deferred.ensures ∙ c.in-None.is) c.value.ensures c.value-2.ensures;
    }
