-- Sums over numbers, and how long a list of different numbers is.
use Rattle.std.proofs.Common.{◌≡◌, ℕ, zero, suc, ◌+◌, ◌*◌, ◌<◌, ◌≤◌, Bool, true, false, eqb, List, [], ◌∷◌, length, refl, arith, ap, eqb-true}
use Rattle.std.proofs.lemmas.Bool.{eqb-false}
use Rattle.seize_moves.specs.Waiting.Held.{same, count}
use Rattle.seize_moves.proofs.Moves.State.Ghost.{Entry}
use Rattle.seize_moves.proofs.Memory.Words.Chains.{blocks_of, count_first}
use Rattle.seize_moves.proofs.Memory.Words.Shows.{both, stands}

-- the sum of f over the numbers below k
abbrev pub sum_of : (ℕ → ℕ) → ℕ → ℕ
sum_of f zero = 0
sum_of f (suc k) = sum_of f k + f k

pub sum_le : (f g : ℕ → ℕ) (k : ℕ) → ((c : ℕ) → g c ≤ f c) → sum_of g k ≤ sum_of f k
sum_le f g zero h = omega arith
sum_le f g (suc k) h = let ih = sum_le f g k h in let p = h k in omega (arith, ih, p)

pub sum_parts : (f g h : ℕ → ℕ) (k : ℕ) → ((c : ℕ) → g c + h c ≤ f c) → sum_of g k + sum_of h k ≤ sum_of f k
sum_parts f g h zero p = omega arith
sum_parts f g h (suc k) p = let ih = sum_parts f g h k p in let q = p k in omega (arith, ih, q)

sum_both : (f g : ℕ → ℕ) (k : ℕ) → sum_of (λ c. f c + g c) k ≡ sum_of f k + sum_of g k
sum_both f g zero = omega arith
sum_both f g (suc k) = let ih = sum_both f g k in omega (arith, ih)

sum_none : (f : ℕ → ℕ) (k : ℕ) → ((c : ℕ) → c < k → f c ≡ 0) → sum_of f k ≡ 0
sum_none f zero h = refl
sum_none f (suc k) h = let ih = sum_none f k (λ c l. h c (omega (arith, l))) in let q = h k (omega arith) in omega (arith, ih, q)

sum_one : (b k : ℕ) → b < k → sum_of (λ c. same c b) k ≡ 1
sum_one b zero l = absurd (omega arith)
sum_one b (suc k) l = last (eqb k b) refl (sum_one b k)
  where
    apart : (c : ℕ) → k ≡ b → c < k → same c b ≡ 0
    apart c e h = grind arith

    last : (t : Bool) → eqb k b ≡ t → (b < k → sum_of (λ c. same c b) k ≡ 1) → sum_of (λ c. same c b) (suc k) ≡ 1
    last true e ih = let q = eqb-true k b e in let z = sum_none (λ c. same c b) k (λ c h. apart c q h) in grind (arith, z, e)
    last false e ih = let q = eqb-false k b e in let z = ih (omega (arith, l, q)) in grind (arith, z, e)

-- a list of numbers that are below a number
pub sum_count : (l : List ℕ) (k : ℕ) → ((c : ℕ) → 0 < count c l → c < k) → sum_of (λ c. count c l) k ≡ length l
sum_count [] k h = sum_none (λ c. 0) k (λ c l. refl)
sum_count (b ∷ l) k h =
    let a = sum_one b k (h b (count_first b l)) in
    let z = sum_count l k (λ c p. h c (more c p)) in
    let s = sum_both (λ c. same c b) (λ c. count c l) k in
    omega (arith, a, z, s)
  where
    more : (c : ℕ) → 0 < count c l → 0 < count c (b ∷ l)
    more c p = omega (arith, p)

sum_times : (f : ℕ → ℕ) (j k : ℕ) → sum_of (λ c. j * f c) k ≡ j * sum_of f k
sum_times f j zero = omega arith
sum_times f j (suc k) = let ih = sum_times f j k in omega (arith, ih)

-- what falls by j at each number of a list
pub sum_falls : (f g : ℕ → ℕ) (j : ℕ) (l : List ℕ) (k : ℕ) → ((c : ℕ) → g c + j * count c l ≤ f c) → ((c : ℕ) → 0 < count c l → c < k)
    → sum_of g k + j * length l ≤ sum_of f k
sum_falls f g j l k p h =
    let a = sum_parts f g (λ c. j * count c l) k p in
    let b = sum_times (λ c. count c l) j k in
    let z = ap (λ n. j * n) (sum_count l k h) in
    omega (arith, a, b, z)

-- lists of different numbers below a number

pub sum_same : (j k : ℕ) → sum_of (λ c. j) k ≡ k * j
sum_same j zero = omega arith
sum_same j (suc k) = let ih = sum_same j k in omega (arith, ih)

pub list_below : (l : List ℕ) (k : ℕ) → ((c : ℕ) → count c l ≤ 1) → ((c : ℕ) → 0 < count c l → c < k) → length l ≤ k
list_below l k once below =
    let a = sum_le (λ c. 1) (λ c. count c l) k once in
    let b = sum_same 1 k in
    let z = sum_count l k below in
    omega (arith, a, b, z)

-- the blocks of entries are different, where each is of one batch
pub count_stands : (c x : ℕ) (es : List Entry) → ((b : ℕ) → stands c b es ≤ same b x) → count c (blocks_of es) ≤ stands c x es
count_stands c x [] h = omega arith
count_stands c x (e ∷ es) h =
    let ih = count_stands c x es (λ b. let k = h b in omega (arith, k)) in
    let k = h e.batch in
    let a = one e (fewer (both c e.batch e) (stands c e.batch es) (same e.batch x) k) in
    omega (arith, ih, a)
  where
    fewer : (a b k : ℕ) → a + b ≤ k → a ≤ k
    fewer a b k h = omega (arith, h)

    one : (e : Entry) → both c e.batch e ≤ same e.batch x → same c e.block ≤ both c x e
    one e k = grind (arith, k)

pub blocks_long : (es : List Entry) → length (blocks_of es) ≡ length es
blocks_long [] = refl
blocks_long (e ∷ es) = let ih = blocks_long es in omega (arith, ih)
