use Rattle.seize_views.specs.declared.view.Began.TheVariants.{Retirement}
use Rattle.std.proofs.Common.{◌≡◌, ap, ◌∙◌}
use Rattle.seize.specs.Settle.{retiring}
use Rattle.seize_words.specs.OneMemory.Word.{link_to}
use Rattle.seize_views.specs.Views.Begun.{IsBegun}
use Rattle.seize_views.specs.declared.view.Becomes.TheVariants.{Idle}
use Rattle.seize_callers.proofs.Calls.{whole_link}
use Rattle.seize_callers.proofs.Turns.{may_retire_idle, leans_retire_idle, retires_idle_told}
use Rattle.seize_callers.proofs.within.Within.retire_idle.Given as given
use Rattle.seize_callers.proofs.within.Within.retire_idle.Goals as goal
use Rattle.seize_callers.proofs.within.Within.retire_idle.Goals.{After-to}

pub part-requires-clause-may : goal.part-requires-clause-may
part-requires-clause-may g c =
    let x = c.args.self.now in may_retire_idle g.C.Rule.holds g.C.Rule.keeps g.C.Content.notes g.C.Content.beside g.C.Rule.leans c.goes_on.ensures.settle x.blocks.now.words.fixed x.seat.now.id x.seat.now.view Retirement c.args.slot c.args.block c.requires.owes

pub part-requires-clause-errand : goal.part-requires-clause-errand
part-requires-clause-errand g c = λ home rests w so. absurd (c.args.self.now.away home)

pub part-requires-clause-leans : goal.part-requires-clause-leans
part-requires-clause-leans g c =
    let x = c.args.self.now in leans_retire_idle g.C.Rule.holds g.C.Rule.keeps g.C.Content.notes g.C.Content.beside g.C.Rule.leans c.goes_on.ensures.leans x.blocks.now.words.fixed x.seat.now.away x.seat.now.view Retirement c.args.slot c.args.block c.requires.owes

begun : (g : given.Over) (c : After-to g) → IsBegun Idle (retiring c.args.slot c.args.self.now.blocks.now.words.fixed.batch_size c.to.result) (g.C.Content.notes c.part.new.seat.view).knows
begun g c =
    let x = c.args.self.now in let fixed = x.blocks.now.words.fixed in
    let row : retiring c.args.slot fixed.batch_size c.to.result ≡ retiring c.args.slot fixed.batch_size (link_to c.args.block) =
    ap (retiring c.args.slot fixed.batch_size) (c.to.ensures ∙ whole_link c.args.block c.requires.fits) in
    retires_idle_told fixed (g.C.Content.notes x.seat.now.view).knows (g.C.Content.notes c.part.new.seat.view).knows c.args.slot c.args.block (retiring c.args.slot fixed.batch_size c.to.result) c.requires.owes c.part.ensures.goes.0 row

pub retires-requires : goal.retires-requires
retires-requires g c = record { begun = (Idle, begun g (goal.at.retires-requires g c).After-to) }

pub returns-clause-outside : goal.returns-clause-outside
returns-clause-outside g c = c.retires.ensures.rests Idle (begun g (goal.at.returns-clause-outside g c).After-to)

pub returns-clause-began : goal.returns-clause-began
returns-clause-began g c = c.retires.ensures.notes.1 ∙ c.part.ensures.goes.2

pub returns-clause-did : goal.returns-clause-did
returns-clause-did g c = c.retires.ensures.notes.0 ∙ c.part.ensures.goes.1
