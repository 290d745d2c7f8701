-- Counts in lists, and functions that agree on all that stands in a list.
use Rattle.std.specs.Prelude.{filter, map, ◌||◌}
use Rattle.std.proofs.Common.{◌≡◌, ℕ, ◌+◌, Bool, true, false, cond, eqb, List, [], ◌∷◌, ◌++◌, refl, arith}
use Rattle.seize.specs.WaitingSets.{is_one_of}
use Rattle.seize_moves.specs.Waiting.Held.{count}

pub count-append : (x : ℕ) (xs ys : List ℕ) → count x (xs ++ ys) ≡ count x xs + count x ys
count-append x [] ys = omega arith
count-append x (z ∷ xs) ys = let ih = count-append x xs ys in omega (arith, ih)

-- a list that counts nothing is empty
pub none_counted : (xs : List ℕ) → ((x : ℕ) → count x xs ≡ 0) → xs ≡ []
none_counted [] h = refl
none_counted (y ∷ ys) h = absurd (one y ys (h y))
  where
    one : (y : ℕ) (ys : List ℕ) → count y (y ∷ ys) ≡ 0 → ⊥
    one y ys h = grind arith

-- a number that isn't counted isn't there, and the other way round

pub not_one : (n : ℕ) (numbers : List ℕ) → count n numbers ≡ 0 → is_one_of n numbers ≡ false
not_one n [] h = refl
not_one n (m ∷ numbers) h = at (eqb n m) refl (not_one n numbers)
  where
    at : (b : Bool) → eqb n m ≡ b → (count n numbers ≡ 0 → is_one_of n numbers ≡ false) → (b || is_one_of n numbers) ≡ false
    at true e ih = absurd (grind (arith, e, h))
    at false e ih = ih (grind (arith, e, h))

pub not_among : (n : ℕ) (numbers : List ℕ) → is_one_of n numbers ≡ false → count n numbers ≡ 0
not_among n [] e = refl
not_among n (m ∷ numbers) e = at (eqb n m) (is_one_of n numbers) e (not_among n numbers)
  where
    at : (y z : Bool) → (y || z) ≡ false → (z ≡ false → count n numbers ≡ 0) → cond y 1 0 + count n numbers ≡ 0
    at true z e ih = absurd (cc e)
    at false z e ih = let a = ih e in omega (arith, a)

-- what differs at most at a number that doesn't stand in the list
pub map_same : {X : Type 0} (f g : ℕ → X) (order : List ℕ) → ((x : ℕ) → (count x order ≡ 0 → ⊥) → f x ≡ g x) → map f order ≡ map g order
map_same {X = X} f g [] h = refl
map_same {X = X} f g (x ∷ order) h = both _ _ _ _ (h x (λ e. grind (arith, e))) (map_same f g order (λ y ne. h y (λ e. ne (grind (arith, e)))))
  where
    both : (a b : X) (l r : List X) → a ≡ b → l ≡ r → (a ∷ l) ≡ (b ∷ r)
    both a b l r e k = cc

pub filter_same : (p q : ℕ → Bool) (order : List ℕ) → ((x : ℕ) → (count x order ≡ 0 → ⊥) → p x ≡ q x) → filter p order ≡ filter q order
filter_same p q [] h = refl
filter_same p q (x ∷ order) h = both (p x) (q x) _ _ (h x (λ e. grind (arith, e))) (filter_same p q order (λ y ne. h y (λ e. ne (grind (arith, e)))))
  where
    both : (y z : Bool) (l r : List ℕ) → y ≡ z → l ≡ r → cond y (x ∷ l) l ≡ cond z (x ∷ r) r
    both y z l r e k = cc
