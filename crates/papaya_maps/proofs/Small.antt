-- A size that is told to be less than 2^64 is so.
use Rattle.std.specs.Prelude.{◌<◌, ◌^◌, nat_lt}
use Rattle.std.proofs.Common.{◌≡◌, ℕ, true}
use Rattle.std.proofs.lemmas.Bool.{ltb-true}

pub small : (size : ℕ) → nat_lt size (2 ^ 64) ≡ true → size < 2 ^ 64
small size short = ltb-true size (2 ^ 64) short
