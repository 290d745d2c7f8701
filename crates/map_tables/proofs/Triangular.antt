-- Triangular numbers: what they are twice, and how far they lie apart.
use Rattle.std.proofs.Common.{◌≡◌, ℕ, zero, suc, ◌+◌, ◌*◌, arith, add-one, subst}
use Rattle.std.proofs.Math.Nat.{add-mul, mul-add, mul_comm}
use Rattle.map_tables.specs.Probes.{triangular}

next-product : (number : ℕ) → (number + 1) * (number + 1 + 1) ≡ number * (number + 1) + 2 * (number + 1)
next-product number =
    let right = mul-add (number + 1) (number + 1) 1 in
    let left = add-mul number 1 (number + 1) in
    omega (arith, right, left)

pub triangular-next : (number : ℕ) → triangular (number + 1) ≡ triangular number + (number + 1)
triangular-next number =
    let product = next-product number in
    omega (arith, product)

pub twice-triangular : (number : ℕ) → number * (number + 1) ≡ 2 * triangular number
twice-triangular zero = omega arith
twice-triangular (suc number) =
    let below = twice-triangular number in
    let product = next-product number in
    let next = triangular-next number in
    subst (λ n. n * (n + 1) ≡ 2 * triangular n) (add-one number) (omega (arith, below, product, next))

-- twice the distance of two triangular numbers
pub triangular-apart : (other more : ℕ) → 2 * triangular (other + more) ≡ 2 * triangular other + more * (2 * other + more + 1)
triangular-apart other more =
    let sum = twice-triangular (other + more) in
    let one = twice-triangular other in
    let left = add-mul other more (other + more + 1) in
    let first = mul-add other (other + 1) more in
    let second = mul-add more (2 * other) (more + 1) in
    let third = mul-add more other (other + more + 1) in
    let order = mul_comm more other in
    let double = mul_comm more (2 * other) in
    let twice = add-mul other other more in
    omega (arith, sum, one, left, first, second, third, order, double, twice)
