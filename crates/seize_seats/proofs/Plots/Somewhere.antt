-- Words lie in a block where there are any, else at null.
use Rattle.std.proofs.Common.{ℕ, ◌<◌, arith}
use denote.RawPtr.{Ptr, null_ptr, block_ptr, InBlock}
use Rattle.seize_seats.specs.Plots.Somewhere.{AreBeside}

pub beside_some : (p : Ptr) (n : ℕ) → AreBeside p n → 0 < n → InBlock p
beside_some null_ptr n is low = absurd (let at = is.0 in grind (arith, at, low))
beside_some (block_ptr b o) n is low = tt
