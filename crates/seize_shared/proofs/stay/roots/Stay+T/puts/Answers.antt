use Rattle.std.proofs.Common.{arith}
use Rattle.seize_shared.proofs.stay.roots.Stay+T.puts.Goals as goal

pub publish-requires-clause-root : goal.publish-requires-clause-root
publish-requires-clause-root g c = rw c.make.ensures.blocks (let k = c.if-root-self.false in let q = c.opens.new.self.rooted in grind (arith, k, q))
