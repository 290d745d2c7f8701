-- The places of a probe: how they go on, and that they are distinct.
use Rattle.std.proofs.Common.{◌≡◌, ℕ, zero, suc, ◌+◌, ◌-◌, ◌*◌, ◌/◌, ◌%◌, ◌^◌, ◌<◌, ◌≤◌, inl, inr, refl, arith, add-zero, sym, ap, ◌∙◌, bit_and}
use Rattle.std.proofs.lemmas.Bool.{cases_lt}
use Rattle.std.proofs.lemmas.Nat.{mul-mod, and_mask, pow_pos, pow-add, le-div}
use Rattle.std.proofs.Math.Nat.{add-mul, mul_comm, mul_assoc, pow-suc, mod-add-mod, add-mul-mod_self_right, div-add-mod, div-mul-le_self, suc-mul}
use Rattle.std.proofs.Math.Pow.{mod-mod-pow}
use Rattle.map_tables.specs.Probes.{triangular, place_at, HasDistinctPlaces}
use Rattle.map_tables.proofs.Triangular.{triangular-next, triangular-apart}

-- an odd factor of a multiple of a power of two can be left out
pub odd_factor : (bits odd other times : ℕ) → odd % 2 ≡ 1 → odd * other ≡ times * 2 ^ bits → (rest : ℕ) × (other ≡ rest * 2 ^ bits)
odd_factor zero odd other times is_odd product = (other, omega arith)
odd_factor (suc bits) odd other times is_odd product =
    let power = pow-suc 2 bits in
    let grouped = mul_assoc times (2 ^ bits) 2 in
    let spread = ap (λ p. times * p) power in
    let whole : odd * other ≡ times * 2 ^ bits * 2 = omega (arith, product, power, grouped, spread) in
    let even : odd * other % 2 ≡ 0 = omega (arith, whole) in
    let factors = mul-mod odd other 2 in
    let one = ap (λ r. r * (other % 2) % 2) is_odd in
    let other_even : other % 2 ≡ 0 = omega (arith, even, factors, one) in
    let halved : other ≡ other / 2 * 2 = omega (arith, other_even) in
    let moved = mul_assoc odd (other / 2) 2 in
    let same = ap (λ n. odd * n) halved in
    let below = odd_factor bits odd (other / 2) times is_odd (omega (arith, whole, moved, same)) in
    let rest = mul_assoc below.0 (2 ^ bits) 2 in
    let last = ap (λ p. below.0 * p) power in
    (below.0, omega (arith, halved, below.1, rest, last))

-- numbers with one remainder lie apart by a multiple
apart : (less more size : ℕ) → 0 < size → less ≤ more → less % size ≡ more % size → (times : ℕ) × (more ≡ less + times * size)
apart less more size some order same =
    let low = div-mul-le_self less size in
    let quotients : less / size ≤ more / size = le-div (less / size) more size some (omega (arith, low)) in
    let below = div-add-mod less size in
    let above = div-add-mod more size in
    let times : ℕ = more / size - less / size in
    let sum : more / size ≡ less / size + times = omega (arith, quotients) in
    let spread = add-mul (less / size) times size in
    let joined = ap (λ n. n * size) sum in
    let swap = mul_comm size (less / size) in
    let swap_more = mul_comm size (more / size) in
    (times, omega (arith, below, above, spread, joined, swap, swap_more, same))

-- the one multiple that is less than its unit
none_below : (times size number : ℕ) → number ≡ times * size → number < size → number ≡ 0
none_below zero size number product few = omega (arith, product)
none_below (suc times) size number product few =
    let one_more = suc-mul times size in
    omega (arith, product, one_more)

-- two tries at one place are one
meet : (bits hash other more : ℕ) → other + more < 2 ^ bits → place_at hash bits other ≡ place_at hash bits (other + more) → more ≡ 0
meet bits hash other more few same =
    let distance = triangular-apart other more in
    let around = apart (hash + triangular other) (hash + triangular (other + more)) (2 ^ bits) (pow_pos bits) (omega (arith, distance)) same in
    let times = around.0 in
    let is_around = around.1 in
    let power = pow-suc 2 bits in
    let grouped = mul_assoc times (2 ^ bits) 2 in
    let spread = ap (λ p. times * p) power in
    let product : more * (2 * other + more + 1) ≡ times * 2 ^ suc bits = omega (arith, distance, is_around, power, grouped, spread) in
    elim (cases_lt (more % 2) 1) as (λ _. more ≡ 0) [
      | inl even ↦ (let swap = mul_comm more (2 * other + more + 1) in
          let found = odd_factor (suc bits) (2 * other + more + 1) more times (omega (arith, even)) (omega (arith, swap, product)) in
          none_below found.0 (2 ^ suc bits) more found.1 (omega (arith, power, few)))
      | inr odd ↦ (let found = odd_factor (suc bits) more (2 * other + more + 1) times (omega (arith, odd)) product in
          let none = none_below found.0 (2 ^ suc bits) (2 * other + more + 1) found.1 (omega (arith, power, few)) in
          omega (arith, none))
    ]

pub has_distinct_places : (hash bits : ℕ) → HasDistinctPlaces hash bits
has_distinct_places hash bits try other few other_few same =
    elim (cases_lt try other) as (λ _. try ≡ other) [
      | inl before ↦ (let sum : other ≡ try + (other - try) = omega arith in
          let none = meet bits hash try (other - try) (omega arith) (same ∙ ap (λ n. place_at hash bits n) sum) in
          omega (arith, none))
      | inr after ↦ (let sum : try ≡ other + (try - other) = omega arith in
          let none = meet bits hash other (try - other) (omega arith) (sym same ∙ ap (λ n. place_at hash bits n) sum) in
          omega (arith, none))
    ]

-- the place where a probe begins
pub place-start : (hash mask bits : ℕ) → mask ≡ 2 ^ bits - 1 → bit_and hash mask ≡ place_at hash bits 0
place-start hash mask bits is_mask = ap (λ m. bit_and hash m) is_mask ∙ and_mask hash bits ∙ ap (λ n. n % 2 ^ bits) (sym (add-zero hash))

-- a remainder by a power of two is that of the remainder by a greater one
narrowed : (number wide bits : ℕ) → bits ≤ wide → number % 2 ^ wide % 2 ^ bits ≡ number % 2 ^ bits
narrowed number wide bits order =
    let sum : wide - bits + bits ≡ wide = omega arith in
    ap (λ w. number % 2 ^ w % 2 ^ bits) (sym sum) ∙ mod-mod-pow number (wide - bits) bits

-- the last try before the numbers of tries wrap is as good as the one before the first
last_try : (hash bits : ℕ) → bits < 64 → (hash + triangular (2 ^ 64 - 1)) % 2 ^ bits ≡ place_at hash bits 0
last_try hash bits few =
    let sum : 63 - bits + bits ≡ 63 = omega arith in
    let power : 2 ^ 63 ≡ 2 ^ (63 - bits) * 2 ^ bits = ap (λ k. 2 ^ k) (sym sum) ∙ pow-add 2 (63 - bits) bits in
    let value : triangular (2 ^ 64 - 1) ≡ (2 ^ 64 - 1) * 2 ^ 63 = refl in
    let times : triangular (2 ^ 64 - 1) ≡ (2 ^ 64 - 1) * 2 ^ (63 - bits) * 2 ^ bits =
    value ∙ ap (λ p. (2 ^ 64 - 1) * p) power ∙ sym (mul_assoc (2 ^ 64 - 1) (2 ^ (63 - bits)) (2 ^ bits)) in
    ap (λ t. (hash + t) % 2 ^ bits) times ∙ add-mul-mod_self_right hash ((2 ^ 64 - 1) * 2 ^ (63 - bits)) (2 ^ bits) ∙ ap (λ n. n % 2 ^ bits) (sym (add-zero hash))

-- the place after a place, also where the number of the try wraps
next_try : (hash bits try : ℕ) → bits < 64 → try < 2 ^ 64 → (hash + triangular try + (try + 1) % 2 ^ 64) % 2 ^ bits ≡ place_at hash bits ((try + 1) % 2 ^ 64)
next_try hash bits try few fits =
    elim (cases_lt (try + 1) (2 ^ 64)) as (λ _. (hash + triangular try + (try + 1) % 2 ^ 64) % 2 ^ bits ≡ place_at hash bits ((try + 1) % 2 ^ 64)) [
      | inl small ↦ (let same : (try + 1) % 2 ^ 64 ≡ try + 1 = omega arith in
          let sum = triangular-next try in
          let number : hash + triangular try + (try + 1) ≡ hash + triangular (try + 1) = omega (arith, sum) in
          ap (λ n. (hash + triangular try + n) % 2 ^ bits) same ∙ ap (λ n. n % 2 ^ bits) number ∙ ap (λ n. place_at hash bits n) (sym same))
      | inr last ↦ (let is_last : try ≡ 2 ^ 64 - 1 = omega arith in
          let wraps : (try + 1) % 2 ^ 64 ≡ 0 = ap (λ t. (t + 1) % 2 ^ 64) is_last in
          ap (λ n. (hash + triangular try + n) % 2 ^ bits) wraps ∙ ap (λ n. n % 2 ^ bits) (add-zero (hash + triangular try))
          ∙ ap (λ t. (hash + triangular t) % 2 ^ bits) is_last ∙ last_try hash bits few ∙ ap (λ n. place_at hash bits n) (sym wraps))
    ]

pub place-next : (hash mask bits place try : ℕ) → bits < 64 → try < 2 ^ 64 → mask ≡ 2 ^ bits - 1 → place ≡ place_at hash bits try
    → bit_and ((place + (try + 1) % 2 ^ 64) % 2 ^ 64) mask ≡ place_at hash bits ((try + 1) % 2 ^ 64)
place-next hash mask bits place try few fits is_mask is_place =
    let next : ℕ = (try + 1) % 2 ^ 64 in
    ap (λ m. bit_and ((place + next) % 2 ^ 64) m) is_mask ∙ and_mask ((place + next) % 2 ^ 64) bits ∙ narrowed (place + next) 64 bits (omega arith)
    ∙ ap (λ p. (p + next) % 2 ^ bits) is_place ∙ mod-add-mod (hash + triangular try) (2 ^ bits) next ∙ next_try hash bits try few fits
