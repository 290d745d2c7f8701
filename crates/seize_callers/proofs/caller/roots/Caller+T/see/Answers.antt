use Rattle.std.specs.Prelude.{ℕ, Some}
use Rattle.std.proofs.Common.{sym, ap, ◌∙◌}
use Rattle.seize_views.specs.Views.Notes.{looked_at}
use Rattle.seize_callers.proofs.caller.roots.Caller+T.see.Goals as goal

pub returns-clause-looked : goal.returns-clause-looked
returns-clause-looked g c =
    ap looked_at c.protect-word.ensures.looked ∙ ap (λ (k : ℕ). Some (c.args.root, k)) (sym c.named.ensures.either)
