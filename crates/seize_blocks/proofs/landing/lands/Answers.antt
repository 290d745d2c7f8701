use Rattle.std.proofs.Common.{arith, refl}
use Rattle.seize_seats.proofs.Plots.Somewhere.{beside_some}
use Rattle.seize_blocks.proofs.landing.lands.Goals as goal

pub returns-then-own-beside : goal.returns-then-own-beside
returns-then-own-beside g c = let b = c.args.beside.now in let low = c.if-own-beside.true in let few = b.beside.1 in
    (beside_some b.at b.count b.beside (omega (arith, low)), omega (arith, low, few), λ there small. (refl, refl))
