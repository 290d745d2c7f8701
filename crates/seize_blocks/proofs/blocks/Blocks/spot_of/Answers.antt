-- A block whose number the first strip has is found there.
use Rattle.std.proofs.Common.{arith, subst, sym}
use Rattle.seize_seats.specs.Seats.Owned.{BaseId}
use Rattle.seize_atoms.specs.Placed.{IsItsIndex}
use Rattle.seize_blocks.proofs.Indices.{its_index}
use Rattle.seize_blocks.proofs.blocks.Blocks.spot_of.Goals as goal

pub returns-then-index-self-clause-index : goal.returns-then-index-self-clause-index
returns-then-index-self-clause-index g c =
    let x = c.args.self.now in let number = c.index_of-index.result in let is = c.index_of-index.ensures in let spot = c.near_spot in let at = spot.ensures.index in
    let first = x.strip.0.3 in let size = x.strip.1 in let most = x.few.2 in let last = x.ends in let low = c.if-index-self.true in let small = is.0 in (
      subst (λ (z : BaseId). IsItsIndex z c.args.block spot.result.index) (sym spot.ensures.strip.0)
          (its_index x.words.id c.args.block number is x.counted.1 (omega (arith, first, size, most)) (omega (arith, first)) (omega (arith, first, size, last, low)) spot.result.index (omega (arith, at, first))),
      omega (arith, at, small),
    )
