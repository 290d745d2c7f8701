use Rattle.std.proofs.Common.{subst}
use Rattle.std.specs.Prelude.{◌<◌, ℕ, Option, IfSome}
use Rattle.seize.specs.World.{HasListWord}
use Rattle.seize_views.specs.declared.view.TheConstants.{LINK}
use Rattle.seize_guards.proofs.joining.joins.Goals as goal

pub makes-requires-clause-list : goal.makes-requires-clause-list
makes-requires-clause-list g c =
    let defers = g.T.Defers.defers in
    subst (λ (o : Option ℕ). IfSome o (λ words. HasListWord defers (defers c.args.value) words)) c.in-Some.is c.words_with_link.ensures.list

pub makes-requires-clause-long : goal.makes-requires-clause-long
makes-requires-clause-long g c = subst (λ (o : Option ℕ). IfSome o (λ words. LINK < words)) c.in-Some.is c.words_with_link.ensures.link
