-- Numbers that have different values below a bound are no more than that bound.
use Rattle.std.specs.Prelude.{◌≡◌, ◌≢◌, ◌<◌, ◌≤◌, ◌==◌, ℕ, suc, Bool, true, false, List, [], ◌∷◌, length, map}
use Rattle.std.specs.List.{All, AllPairs, AllByRecursion, IsDistinct, list_any}
use Rattle.std.proofs.Common.{refl, ap, subst, arith}
use Rattle.std.proofs.lemmas.Bool.{ne_eqb}
use Rattle.std.proofs.lemmas.Map.Steps.{length-le_from_distinct_below}

module _ (f : ℕ → ℕ) where
  same_length : (xs : List ℕ) → length (map f xs) ≡ length xs
  same_length [] = refl
  same_length (x ∷ xs) = ap suc (same_length xs)

  -- f has other values at these than at x
  others : (x : ℕ) (xs : List ℕ) → All (λ y. f x ≢ f y) xs → AllByRecursion (λ y. (f x == y) ≡ false) (map f xs)
  others x [] all = tt
  others x (y ∷ xs) all = (ne_eqb (f x) (f y) (all 0 y (omega arith)), others x xs (λ k d l. all (suc k) d (omega (arith, l))))

  distinct : (xs : List ℕ) → AllPairs (λ x y. f x ≢ f y) xs → IsDistinct (λ a b. a == b) (map f xs)
  unfolding IsDistinct
  distinct [] pairs = tt
  distinct (x ∷ xs) pairs = (
    others x xs (λ k d l. pairs 0 (suc k) d (omega arith) (omega (arith, l))),
    distinct xs (λ i j d l k. pairs (suc i) (suc j) d (omega (arith, l)) (omega (arith, k))),
  )

  below : (n : ℕ) (xs : List ℕ) → All (λ x. f x < n) xs → (q : ℕ) → list_any (λ y. q == y) (map f xs) ≡ true → q < n
  below n [] all q found = absurd (cc found)
  below n (x ∷ xs) all q found = at_head (q == f x) refl (below n xs (λ k d l. all (suc k) d (omega (arith, l))) q)
    where
      at_head : (b : Bool) → (q == f x) ≡ b → (list_any (λ y. q == y) (map f xs) ≡ true → q < n) → q < n
      at_head true e later = grind (arith, e, all 0 x (omega arith))
      at_head false e later = later (grind (arith, e, found))

  -- numbers at which f has different values below n are at most n
  pub few_below : (n : ℕ) (xs : List ℕ) → AllPairs (λ x y. f x ≢ f y) xs → All (λ x. f x < n) xs → length xs ≤ n
  few_below n xs pairs all = subst (λ (x : ℕ). x ≤ n) (same_length xs) (length-le_from_distinct_below (map f xs) n (distinct xs pairs) (below n xs all))
