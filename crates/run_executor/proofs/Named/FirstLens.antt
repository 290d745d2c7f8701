-- A map can be made with none, or with a power of two.
use Rattle.std.specs.Int.{IsPowerOfTwo}
use Rattle.std.proofs.Common.{ℕ, ◌≤◌, ◌^◌, refl, arith}
use Rattle.run_executor.specs.Named.Places.{IsFirstLen}
use Rattle.papaya_raw.proofs.Given.TablesTableLens.{greater}

pub power_is_first : (places : ℕ) → IsPowerOfTwo places → places ≤ 2 ^ 48 → IsFirstLen places
power_is_first places power few =
    (greater places 1 power (0, refl), record { power = greater places 8 power (3, refl); least = omega arith; most = omega (arith, few) })

pub none_is_first : IsFirstLen 0
none_is_first = ((0, refl), record { power = (3, refl); least = omega arith; most = omega arith })
