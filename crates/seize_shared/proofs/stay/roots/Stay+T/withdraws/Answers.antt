use Rattle.std.proofs.Common.{arith}
use Rattle.seize_shared.proofs.stay.roots.Stay+T.withdraws.Goals as goal

pub withdraw-requires-clause-root : goal.withdraw-requires-clause-root
withdraw-requires-clause-root g c = let k = c.if-root-self.false in let q = c.closes.new.self.rooted in grind (arith, k, q)
