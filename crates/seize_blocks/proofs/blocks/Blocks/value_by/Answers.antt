use Rattle.std.proofs.Common.{◌≡◌, subst}
use Rattle.seize_seats.specs.declared.kept.Kept.{Kept}
use Rattle.seize_seats.specs.Seats.Lendings.{IsValueBy}
use Rattle.seize_blocks.proofs.blocks.Blocks.value_by.Goals as goal

pub spot_of-spot-requires-clause-shown : goal.spot_of-spot-requires-clause-shown
spot_of-spot-requires-clause-shown g c = let guard = c.args.guard.now in let owner = c.args.owner.now in
    λ t so at_p at_g at_o. c.requires.there t guard.id guard.view owner.id owner.view c.args.block so at_g at_o (c.requires.kept t so at_p at_g at_o)

pub returns : goal.returns
returns g c =
    let e = c.value_by.ensures in let found = e.1 in let seen = c.in-Some.is in let same : e.0 ≡ c.in-Some.kept = cc (found, seen) in
    let pass = c.args.pass.now in let guard = c.args.guard.now in let owner = c.args.owner.now in let holds = g.R.Rule.holds c.args.self.now.words.fixed in
    subst (λ (x : Kept g.row.T.Denot). IsValueBy holds pass.id pass.view guard.id guard.view owner.id owner.view c.args.block x.value) same e.2
