use Rattle.seize_views.specs.declared.view.Began.TheVariants.{Retirement}
use Rattle.std.proofs.Common.{◌≡◌, ap, ◌∙◌}
use Rattle.seize.specs.Settle.{retiring}
use Rattle.seize_words.specs.OneMemory.Word.{link_to}
use Rattle.seize_views.specs.Views.Begun.{IsBegun}
use Rattle.seize_views.specs.declared.view.Becomes.TheVariants.{Active}
use Rattle.seize_callers.proofs.Calls.{whole_link}
use Rattle.seize_callers.proofs.Turns.{may_retire, leans_retire, retires_told}
use Rattle.seize_callers.proofs.within.Within.retire.Given as given
use Rattle.seize_callers.proofs.within.Within.retire.Goals as goal
use Rattle.seize_callers.proofs.within.Within.retire.Goals.{After-to}

pub part-requires-clause-may : goal.part-requires-clause-may
part-requires-clause-may g c =
    let x = c.args.self.now in may_retire g.C.Rule.holds g.C.Rule.keeps g.C.Content.notes g.C.Content.beside g.C.Rule.leans c.goes_on.ensures.settle x.blocks.now.words.fixed x.seat.now.id x.seat.now.view Retirement c.args.slot c.args.block c.requires.cut

pub part-requires-clause-errand : goal.part-requires-clause-errand
part-requires-clause-errand g c = λ home rests w so. absurd (c.args.self.now.away home)

pub part-requires-clause-leans : goal.part-requires-clause-leans
part-requires-clause-leans g c =
    let x = c.args.self.now in leans_retire g.C.Rule.holds g.C.Rule.keeps g.C.Content.notes g.C.Content.beside g.C.Rule.leans c.goes_on.ensures.leans x.blocks.now.words.fixed x.seat.now.away x.seat.now.view Retirement c.args.slot c.args.block c.requires.cut

begun : (g : given.Over) (c : After-to g) → IsBegun Active (retiring c.args.slot c.args.self.now.blocks.now.words.fixed.batch_size c.to.result) (g.C.Content.notes c.part.new.seat.view).knows
begun g c =
    let x = c.args.self.now in let fixed = x.blocks.now.words.fixed in
    let row : retiring c.args.slot fixed.batch_size c.to.result ≡ retiring c.args.slot fixed.batch_size (link_to c.args.block) =
    ap (retiring c.args.slot fixed.batch_size) (c.to.ensures ∙ whole_link c.args.block c.requires.fits) in
    retires_told fixed (g.C.Content.notes x.seat.now.view).knows (g.C.Content.notes c.part.new.seat.view).knows c.args.slot c.args.block (retiring c.args.slot fixed.batch_size c.to.result) c.requires.cut c.part.ensures.goes.0 row

pub retires-requires : goal.retires-requires
retires-requires g c = record { begun = (Active, begun g (goal.at.retires-requires g c).After-to) }

pub returns-clause-inside : goal.returns-clause-inside
returns-clause-inside g c = c.retires.ensures.rests Active (begun g (goal.at.returns-clause-inside g c).After-to)

pub returns-clause-began : goal.returns-clause-began
returns-clause-began g c = c.retires.ensures.notes.1 ∙ c.part.ensures.goes.2

pub returns-clause-did : goal.returns-clause-did
returns-clause-did g c = c.retires.ensures.notes.0 ∙ c.part.ensures.goes.1
