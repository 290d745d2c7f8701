use Rattle.std.proofs.Common.{arith}
use Rattle.seize_shared.proofs.stay.roots.Stay+T.clears.Goals as goal

pub remove-requires-clause-root : goal.remove-requires-clause-root
remove-requires-clause-root g c = let k = c.if-root-self.false in let q = c.opens.new.self.rooted in grind (arith, k, q)
