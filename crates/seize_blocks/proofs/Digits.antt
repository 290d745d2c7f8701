-- Where the strip of a number begins: at the power of two with as many binary digits, as the first strip has a power of two of numbers.
use Rattle.std.specs.Prelude.{◌≡◌, ℕ, suc, ◌+◌, ◌-◌, ◌*◌, ◌%◌, ◌<◌, ◌≤◌, ◌^◌, ◌⊎◌, bit_xor}
use Rattle.std.specs.Int.Count.{count_leading_zeros}
use Rattle.std.proofs.Common.{inr, inl, arith, ap, sym, ◌∙◌, pow-suc, pow-add, subst, refl}
use Rattle.std.proofs.lemmas.Bool.{cases_lt}
use Rattle.std.proofs.lemmas.Grind.{common_steps}
use Rattle.std.proofs.lemmas.Nat.{leading_top, shl_whole, xor_block}
use Rattle.std.proofs.Math.Pow.{pow_mono}
use Rattle.seize_atoms.specs.Placed.{IsBehind}

-- how many digits follow the number's highest one
abbrev top_of : ℕ → ℕ
top_of n = 63 - count_leading_zeros 64 n

abbrev HasTop : ℕ → ℕ → Type 0
HasTop n top = (count_leading_zeros 64 n ≤ 63) × (2 ^ top ≤ n) × (n < 2 ^ suc top)

has_top : (n : ℕ) → 0 < n → n < 2 ^ 32 → HasTop n (top_of n)
has_top n some small = let l = leading_top 64 n some (omega (arith, small)) in let sum = l.1 in let is : l.0 ≡ top_of n = omega (arith, sum) in
    let both = subst (λ (k : ℕ). (2 ^ k ≤ n) × (n < 2 ^ suc k)) is (l.2, l.3) in (omega (arith, sum), both.0, both.1)

fewer : (i j m : ℕ) → 2 ^ i ≤ m → m < 2 ^ j → i < j
fewer i j m low high = case (cases_lt i j)
  where
    case : (i < j) ⊎ (j ≤ i) → i < j
    case (inl lt) = lt
    case (inr le) = let p = pow_mono le in absurd (omega (arith, p, low, high))

-- a power of two that is shifted to its place
whole : (d : ℕ) → d < 63 → (1 * 2 ^ d) % 2 ^ 64 ≡ 2 ^ d
whole d few = let one : 1 * 2 ^ d ≡ 2 ^ d = omega arith in shl_whole 1 1 d 64 (omega arith) (omega (arith, few)) ∙ one

some_power : (d : ℕ) → 0 < 2 ^ d
some_power d = let none : 0 ≤ d = omega arith in let p = pow_mono none in omega (arith, p)

pub is_power : (d : ℕ) → d ≤ 32 → ((1 * 2 ^ d) % 2 ^ 64 ≡ 2 ^ d) × (0 < (1 * 2 ^ d) % 2 ^ 64) × ((1 * 2 ^ d) % 2 ^ 64 ≤ 2 ^ 32)
is_power d few = let is = whole d (omega (arith, few)) in let some = some_power d in let most = pow_mono few in (is, omega (arith, is, some), omega (arith, is, most))

-- what is left of a number without its highest digit
without : (n top : ℕ) → 2 ^ top ≤ n → n < 2 ^ suc top → bit_xor n (2 ^ top) ≡ n - 2 ^ top
without n top low high = let twice = pow-suc 2 top in let left = n - 2 ^ top in let parts : 1 * 2 ^ top + left ≡ n = omega (arith, low) in
    let one : 1 * 2 ^ top + 0 ≡ 2 ^ top = omega arith in let none : bit_xor left 0 ≡ left = grind (arith, common_steps) in
    let both : bit_xor 1 1 ≡ 0 = refl in let block = xor_block top 1 1 left 0 (omega (arith, low, high, twice)) (omega (arith, low, high, twice)) in
    let rest : bit_xor 1 1 * 2 ^ top + bit_xor left 0 ≡ left = subst (λ (m : ℕ). m * 2 ^ top + bit_xor left 0 ≡ left) (sym both) (omega (arith, none)) in
    ap (λ (m : ℕ). bit_xor m (2 ^ top)) (sym parts) ∙ ap (λ (m : ℕ). bit_xor (1 * 2 ^ top + left) m) (sym one)
    ∙ block ∙ rest

module _ (least digits index : ℕ) (even : least ≡ 2 ^ digits) (far : least ≤ index) (small : index < 2 ^ 32) where
  top : HasTop index (top_of index)
  top = let some = some_power digits in has_top index (omega (arith, some, even, far)) small

  -- the number has a highest digit
  pub has_digits : count_leading_zeros 64 index ≤ 63
  has_digits = top.0

  -- and no fewer digits than the first strip's count
  pub no_fewer : digits ≤ top_of index
  no_fewer = let t = fewer digits (suc (top_of index)) index (omega (arith, even, far)) top.2 in omega (arith, t)

  few : top_of index < 32
  few = fewer (top_of index) 32 index top.1 small

  -- its strip begins there
  pub begins : IsBehind least index (top_of index - digits) ((1 * 2 ^ top_of index) % 2 ^ 64)
  begins =
      let le = no_fewer in let sum : digits + (top_of index - digits) ≡ top_of index = omega (arith, le) in
      let parts : 2 ^ top_of index ≡ least * 2 ^ (top_of index - digits) =
      ap (λ (k : ℕ). 2 ^ k) (sym sum) ∙ pow-add 2 digits (top_of index - digits) ∙ ap (λ (k : ℕ). k * 2 ^ (top_of index - digits)) (sym even) in
      let twice : 2 ^ suc (top_of index) ≡ 2 ^ top_of index * 2 = pow-suc 2 (top_of index) in let low = top.1 in let high = top.2 in let less = few in let is = whole (top_of index) (omega (arith, less)) in
      (is ∙ parts, omega (arith, is, low), omega (arith, is, twice, high), omega (arith, less))

  -- and the digits that follow are its index there
  pub follow : bit_xor index ((1 * 2 ^ top_of index) % 2 ^ 64) ≡ index - (1 * 2 ^ top_of index) % 2 ^ 64
  follow = let less = few in let is = whole (top_of index) (omega (arith, less)) in
      subst (λ (k : ℕ). bit_xor index k ≡ index - k) (sym is) (without index (top_of index) top.1 top.2)

  -- a strip has at most half of all numbers
  pub half : (1 * 2 ^ top_of index) % 2 ^ 64 + (1 * 2 ^ top_of index) % 2 ^ 64 ≤ 2 ^ 32
  half = let less = few in let is = whole (top_of index) (omega (arith, less)) in let le : top_of index ≤ 31 = omega (arith, less) in let most = pow_mono le in omega (arith, is, most)
