use Rattle.seize_guards.proofs.Deferrals.{may_link, may_push, linked_told, pushed_told, changed_told, noted_still}
use Rattle.seize_guards.proofs.deferring.pushes.Goals as goal

pub store-requires-clause-may : goal.store-requires-clause-may
store-requires-clause-may g c =
    let s = c.args.seat.now in
    may_link g.T.Defers.defers c.args.blocks.now.words.fixed s.id s.view c.args._slot c.args.seen c.args.block c.args.field c.args.head c.requires.puts

pub exchange-requires-clause-may : goal.exchange-requires-clause-may
exchange-requires-clause-may g c =
    let u = c.store.new.seat in
    may_push g.T.Defers.defers c.args.blocks.now.words.fixed u.id u.view c.args._slot c.args.seen c.args.block c.args.field c.args.head c.to.result
    (linked_told g.T.Defers.defers c.args.seat.now.view.knows u.view.knows c.args._slot c.args.seen c.args.block c.args.field c.args.head c.requires.puts c.store.ensures.goes.0)
    c.to.ensures c.requires.fits

pub returns-in-Ok-clause-over : goal.returns-in-Ok-clause-over
returns-in-Ok-clause-over g c =
    let u = c.store.new.seat in
    pushed_told g.T.Defers.defers u.view.knows c.exchange.new.seat.view.knows c.args._slot c.args.seen c.args.block c.args.field c.args.head c.to.result c.exchange.result c.in-Ok.field-0 c.in-Ok.is
    (linked_told g.T.Defers.defers c.args.seat.now.view.knows u.view.knows c.args._slot c.args.seen c.args.block c.args.field c.args.head c.requires.puts c.store.ensures.goes.0)
    c.exchange.ensures.goes.0

pub returns-in-Err-clause-again : goal.returns-in-Err-clause-again
returns-in-Err-clause-again g c =
    let u = c.store.new.seat in
    changed_told g.T.Defers.defers u.view.knows c.exchange.new.seat.view.knows c.args._slot c.args.seen c.args.block c.args.field c.args.head c.to.result c.exchange.result c.in-Err.found c.in-Err.is
    (linked_told g.T.Defers.defers c.args.seat.now.view.knows u.view.knows c.args._slot c.args.seen c.args.block c.args.field c.args.head c.requires.puts c.store.ensures.goes.0)
    c.exchange.ensures.goes.0

pub returns-in-Ok-clause-notes : goal.returns-in-Ok-clause-notes
returns-in-Ok-clause-notes g c =
    let u = c.store.new.seat in
    noted_still c.args.seat.now.view u.view c.exchange.new.seat.view c.args._slot c.args.seen c.args.field c.args.block c.args.head c.to.result c.exchange.result c.requires.puts
    (linked_told g.T.Defers.defers c.args.seat.now.view.knows u.view.knows c.args._slot c.args.seen c.args.block c.args.field c.args.head c.requires.puts c.store.ensures.goes.0)
    (c.store.ensures.goes.1, c.store.ensures.goes.2, c.store.ensures.goes.3) (c.exchange.ensures.goes.1, c.exchange.ensures.goes.2, c.exchange.ensures.goes.3)

pub returns-in-Err-clause-notes : goal.returns-in-Err-clause-notes
returns-in-Err-clause-notes g c =
    let u = c.store.new.seat in
    noted_still c.args.seat.now.view u.view c.exchange.new.seat.view c.args._slot c.args.seen c.args.field c.args.block c.args.head c.to.result c.exchange.result c.requires.puts
    (linked_told g.T.Defers.defers c.args.seat.now.view.knows u.view.knows c.args._slot c.args.seen c.args.block c.args.field c.args.head c.requires.puts c.store.ensures.goes.0)
    (c.store.ensures.goes.1, c.store.ensures.goes.2, c.store.ensures.goes.3) (c.exchange.ensures.goes.1, c.exchange.ensures.goes.2, c.exchange.ensures.goes.3)
