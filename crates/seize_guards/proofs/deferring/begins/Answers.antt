use Rattle.seize_words.specs.OneMemory.Word.{link_to}
use Rattle.seize_words.specs.declared.at.At.TheVariants.{Word}
use Rattle.seize.specs.Defer.{deferring}
use Rattle.seize_views.specs.declared.view.Deferral.TheVariants.{Puts}
use Rattle.seize_views.specs.declared.view.SlotView.TheVariants.{Defers}
use Rattle.seize_guards.proofs.Chains.{way_leans}
use Rattle.seize_guards.proofs.Deferrals.{may_begin, putting_of, may_read, head_told}
use Rattle.seize_guards.proofs.deferring.begins.Goals as goal

pub part-requires-clause-may : goal.part-requires-clause-may
part-requires-clause-may g c =
    let s = c.args.seat.now in let i = c.requires.parts in
    may_begin g.T.Defers.defers c.args.blocks.now.words.fixed s.id s.view c.args._slot c.args.seen c.args._block c.args.field i.0 i.1 i.2 i.3 i.4

pub part-requires-clause-errand : goal.part-requires-clause-errand
part-requires-clause-errand g c = λ home rests w so. absurd (c.requires.away home)

pub part-requires-clause-leans : goal.part-requires-clause-leans
part-requires-clause-leans g c = λ w so n leans.
    let s = c.args.seat.now in let i = c.requires.parts in
    let k = putting_of g.T.Defers.defers s.view.knows w.knows c.args._slot c.args.seen c.args._block c.args.field i.0 i.1 i.2 i.3 so.0 in
    absurd (way_leans w.knows (Defers c.args._slot (Puts c.args.seen (deferring (link_to c.args._block) (Word c.args.seen c.args.field)))) n k (λ x. x) leans)

pub load-requires-clause-may : goal.load-requires-clause-may
load-requires-clause-may g c =
    let s = c.args.seat.now in let i = c.requires.parts in let u = c.part.new.seat in
    may_read g.T.Defers.defers c.args.blocks.now.words.fixed u.id u.view c.args._slot c.args.seen c.args._block c.args.field
    (putting_of g.T.Defers.defers s.view.knows u.view.knows c.args._slot c.args.seen c.args._block c.args.field i.0 i.1 i.2 i.3 c.part.ensures.goes.0)

pub returns-clause-puts : goal.returns-clause-puts
returns-clause-puts g c =
    let s = c.args.seat.now in let i = c.requires.parts in let u = c.part.new.seat in
    head_told g.T.Defers.defers u.view.knows c.load.new.seat.view.knows c.args._slot c.args.seen c.args._block c.args.field c.load.result
    (putting_of g.T.Defers.defers s.view.knows u.view.knows c.args._slot c.args.seen c.args._block c.args.field i.0 i.1 i.2 i.3 c.part.ensures.goes.0) c.load.ensures.goes.0
