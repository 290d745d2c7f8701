use Rattle.std.specs.Prelude.{ℕ, Some}
use Rattle.std.proofs.Common.{sym, ap, ◌∙◌}
use Rattle.seize_views.specs.Views.Notes.{written_at}
use Rattle.seize_callers.proofs.Deeds.{put_noted}
use Rattle.seize_callers.proofs.Calls.{may_link}
use Rattle.seize_callers.proofs.caller.roots.Caller+T.publish.Goals as goal

pub swap-old-requires-clause-may : goal.swap-old-requires-clause-may
swap-old-requires-clause-may g c =
    let x = c.args.self.now in
    may_link g.T.Defers.defers x.blocks.now.words.fixed x.seat.id x.seat.view
    c.args._slot c.args.block c.requires.has.0 c.args.root c.to.result c.requires.has.1 c.requires.root c.requires.fits c.to.ensures

pub returns-clause-put : goal.returns-clause-put
returns-clause-put g c = λ value is.
    let x = c.args.self.now in
    ap written_at (put_noted x.seat.view.knows x.seat.view.did c.swap-old.new.seat.view.did c.args._slot c.args.root c.to.result c.swap-old.result c.args.block value is
    c.swap-old.ensures.goes.1) ∙ ap (λ (k : ℕ). Some (c.args.root, Some value, k)) (sym c.named.ensures.either)
