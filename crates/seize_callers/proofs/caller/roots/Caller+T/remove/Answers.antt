use Rattle.std.specs.Prelude.{ℕ, Some, None}
use Rattle.std.proofs.Common.{sym, ap, ◌∙◌}
use Rattle.seize_views.specs.Views.Notes.{written_at}
use Rattle.seize_callers.proofs.Deeds.{removed_noted}
use Rattle.seize_callers.proofs.Calls.{may_clear}
use Rattle.seize_callers.proofs.caller.roots.Caller+T.remove.Goals as goal

pub swap-old-requires-clause-may : goal.swap-old-requires-clause-may
swap-old-requires-clause-may g c =
    let x = c.args.self.now in
    may_clear g.T.Defers.defers x.blocks.now.words.fixed x.seat.id x.seat.view c.args._slot c.args.root c.requires.inside c.requires.root

pub returns-clause-took : goal.returns-clause-took
returns-clause-took g c =
    let x = c.args.self.now in
    ap written_at (removed_noted x.seat.view.knows x.seat.view.did c.swap-old.new.seat.view.did c.args._slot c.args.root 0 c.swap-old.result c.requires.inside
    c.swap-old.ensures.goes.1) ∙ ap (λ (k : ℕ). Some (c.args.root, None, k)) (sym c.named.ensures.either)
