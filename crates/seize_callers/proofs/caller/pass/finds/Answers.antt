use Rattle.std.proofs.Common.{subst}
use Rattle.std.specs.Prelude.{◌<◌, ◌^◌, ℕ, Option, IfSome}
use Rattle.seize_views.proofs.Views.Passing.{leanings_see, leanings_mark}
use Rattle.seize_callers.proofs.caller.pass.finds.Goals as goal

pub load-requires-clause-may : goal.load-requires-clause-may
load-requires-clause-may g c =
    let s = c.args.seat.now in let u = c.requires.under in
    leanings_see g.row.T.Denot g.T.Defers.defers c.args.blocks.now.words.fixed s.id u.0 u.1 u.2 c.args.root s.view u.3 c.requires.there

pub or-requires-clause-may : goal.or-requires-clause-may
or-requires-clause-may g c =
    let s = c.args.seat.now in let u = c.requires.under in
    leanings_mark g.row.T.Denot g.T.Defers.defers c.args.blocks.now.words.fixed s.id u.0 u.1 u.2 c.args.root c.in-Some.bits s.view u.3
    (subst (λ (o : Option ℕ). IfSome o (λ bits. bits < 2 ^ 11)) c.in-Some.is c.requires.small) c.requires.there
