use Rattle.std.proofs.Common.{◌≡◌, subst}
use Rattle.seize_seats.specs.declared.kept.Kept.{Kept}
use Rattle.seize_seats.specs.Seats.Lendings.{IsValueOfBoth}
use Rattle.seize_atoms.proofs.Allowed.{value_here}
use Rattle.seize_blocks.proofs.blocks.Blocks.value_for.Goals as goal

pub returns : goal.returns
returns g c =
    let e = c.value.ensures in let found = e.1 in let seen = c.in-Some.is in let same : e.0 ≡ c.in-Some.kept = cc (found, seen) in
    let one = c.args.guard.now in let other = c.args.owner.now in let holds = g.R.Rule.holds c.args.self.now.words.fixed in
    let k = value_here g.R.Rule.rests g.R.Rule.leans g.R.Rule.upright holds g.R.Rule.keeps one.id one.view one.visit one.away other.id other.view other.visit other.away c.args.block e.0 e.2 in
    subst (λ (x : Kept g.row.T.Denot). IsValueOfBoth holds one.id one.view other.id other.view c.args.block x.value) same k
