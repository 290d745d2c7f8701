-- A map can be made with no table, or with a power of two of places.
use Rattle.std.specs.Int.{IsPowerOfTwo}
use Rattle.std.specs.Prelude.{max}
use Rattle.std.proofs.Common.{ℕ, ◌≤◌, ◌^◌, refl, arith}
use Rattle.map_tables.specs.Lengths.{IsTableLen}
use Rattle.map_tables.proofs.TableLens.{greater as greater_power}

pub first_table : (places : ℕ) → IsPowerOfTwo places → places ≤ 2 ^ 48 → IsTableLen (max places 8)
first_table places power few = record { power = greater_power places 8 power (3, refl); least = omega arith; most = omega (arith, few) }

pub no_table_yet : IsTableLen 8
no_table_yet = record { power = (3, refl); least = omega arith; most = omega arith }
