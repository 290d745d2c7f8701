-- Powers of two, and the logarithms to that base.
use Rattle.std.specs.Prelude.{ℕ, ◌+◌, ◌-◌, ◌^◌, nat_le, if◌then◌else◌}
use Rattle.std.specs.Int.{leading_zeros, w64}

-- the logarithm, rounded down, of a number of 64 bits from 1 on: the place of its highest set bit
abbrev pub floor_log2 : ℕ → ℕ
floor_log2 number = 63 - leading_zeros w64 number

-- the least power of two that is the number or more, for a number up to 2 ^ 63
abbrev pub next_power : ℕ → ℕ
next_power number = if nat_le number 1 then 1 else 2 ^ (floor_log2 (number - 1) + 1)
