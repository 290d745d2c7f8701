use Rattle.std.proofs.Common.{sym, subst, refl, ◌∙◌}
use Rattle.seize_views.specs.Views.Rows.{IsQuiescent}
use Rattle.seize_callers.proofs.caller.pass.Caller+T.finds_by.Goals as goal

pub errand_with-requires-clause-asks : goal.errand_with-requires-clause-asks
errand_with-requires-clause-asks g c =
    let x = c.args.self.now in
    (sym c.requires.own, refl, x.own ∙ sym c.requires.own, refl, (c.args._slot, c.requires.inside), c.requires.there, c.args.pass.now.rests, c.requires.small)

pub errand_with-requires-clause-ends : goal.errand_with-requires-clause-ends
errand_with-requires-clause-ends g c = λ answer w did. subst IsQuiescent (sym did.0) tt
