-- The index of a block in the strip of its number.
use Rattle.std.specs.Prelude.{◌≡◌, ℕ, ◌+◌, ◌-◌, ◌<◌, ◌≤◌, ◌^◌}
use Rattle.std.proofs.Common.{arith}
use Rattle.seize_seats.specs.Seats.Owned.{BaseId}
use Rattle.seize_atoms.specs.Placed.{IsItsIndex}
use Rattle.seize_blocks.specs.Parts.{IsItsNumber}

module _ (z : BaseId) (block number : ℕ) (is : IsItsNumber block number) (all : z.count ≡ 2 ^ 32) (few : z.first + z.size ≤ 2 ^ 32) (from : z.first ≤ number)
    (within : number < z.first + z.size) where
  pub its_index : (index : ℕ) → index ≡ number - z.first → IsItsIndex z block index
  its_index index at = (
    λ some most. let same = (is.1 some).1 (omega (arith, most, all)) in (omega (arith, same, from), omega (arith, same, within)),
    λ some its. let high = its.1 in let same = (is.1 some).1 (omega (arith, some, high, few)) in omega (arith, at, same),
  )
