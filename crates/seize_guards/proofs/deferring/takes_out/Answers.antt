use Rattle.seize_views.specs.declared.view.Deferral.TheVariants.{Takes}
use Rattle.seize_views.specs.declared.view.SlotView.TheVariants.{Defers}
use Rattle.seize_guards.proofs.Chains.{way_leans}
use Rattle.seize_guards.proofs.Deferrals.{taking_of, may_turn_to_take, may_take_out, taken_out, taken_noted}
use Rattle.seize_guards.proofs.deferring.takes_out.Goals as goal

pub part-requires-clause-may : goal.part-requires-clause-may
part-requires-clause-may g c =
    let s = c.args.seat.now in let i = c.requires.seen in
    may_turn_to_take g.T.Defers.defers c.args.blocks.now.words.fixed s.id s.view c.args._slot c.args._seen i.0 i.1

pub part-requires-clause-errand : goal.part-requires-clause-errand
part-requires-clause-errand g c = λ home rests w so. absurd (c.requires.away home)

pub part-requires-clause-leans : goal.part-requires-clause-leans
part-requires-clause-leans g c = λ w so n leans.
    let s = c.args.seat.now in let i = c.requires.seen in let k = taking_of c.args._slot c.args._seen i.0 s.view.knows w.knows i.1 so.0 in
    absurd (way_leans w.knows (Defers c.args._slot (Takes c.args._seen k.0 i.0)) n k.1 (λ x. x) leans)

pub swap-requires-clause-may : goal.swap-requires-clause-may
swap-requires-clause-may g c =
    let s = c.args.seat.now in let i = c.requires.seen in let u = c.part.new.seat in
    let k = taking_of c.args._slot c.args._seen i.0 s.view.knows u.view.knows i.1 c.part.ensures.goes.0 in
    may_take_out g.T.Defers.defers c.args.blocks.now.words.fixed u.id u.view c.args._slot c.args._seen k.0 i.0 c.args.root c.args.word k.1 i.2 c.requires.root

pub returns-clause-parted : goal.returns-clause-parted
returns-clause-parted g c =
    let s = c.args.seat.now in let i = c.requires.seen in let u = c.part.new.seat in
    let k = taking_of c.args._slot c.args._seen i.0 s.view.knows u.view.knows i.1 c.part.ensures.goes.0 in
    let t = taken_out g.T.Defers.defers u.view.knows c.swap.new.seat.view.knows c.args._slot c.args._seen k.0 i.0 c.args.root c.args.word c.swap.result k.1 c.swap.ensures.goes.0 in
    (k.0, t.0, t.1)

pub returns-clause-did : goal.returns-clause-did
returns-clause-did g c = λ made is.
    let s = c.args.seat.now in let u = c.part.new.seat in
    let k = taking_of c.args._slot c.args._seen made s.view.knows u.view.knows is c.part.ensures.goes.0 in
    taken_noted u.view.knows u.view.did c.swap.new.seat.view.did c.args._slot c.args._seen c.args.root c.args.word c.swap.result k.0 made k.1 c.swap.ensures.goes.1
