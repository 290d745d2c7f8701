-- The Fibonacci sequence, and what a memo of it keeps.
use Rattle.std.specs.Prelude.{◌≡◌, ℕ, zero, suc, ◌+◌, ◌%◌, ◌^◌, List}
use Rattle.std.specs.List.{All}

-- 0, 1, and from then on the sum of the two numbers before
abbrev pub fibonacci : ℕ → ℕ
fibonacci zero = 0
fibonacci (suc zero) = 1
fibonacci (suc (suc n)) = fibonacci (suc n) + fibonacci n

-- the pair of a place and the number there, modulo 2 ^ 64
abbrev pub IsRight : ℕ × ℕ → Type 0
IsRight pair = pair.1 ≡ fibonacci pair.0 % 2 ^ 64

-- every pair of the memo is right
abbrev pub AreRight : List (ℕ × ℕ) → Type 0
AreRight pairs = All IsRight pairs
