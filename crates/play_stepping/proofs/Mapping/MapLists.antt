-- Lists of maps: what is kept of them, and that a name and a number are found just once.
use Rattle.std.specs.Prelude.{◌≡◌, ◌≤◌, suc, Bool, true, false, cond, List, [], ◌∷◌, ◌++◌, length, filter, find, map, Some, if◌then◌else◌}
use Rattle.std.specs.List.{All, AllByRecursion}
use Rattle.std.proofs.Common.{refl, ap, sym, ◌∙◌, arith}

module _ {X : Type 0} where
  pub by_recursion : (P : X → Type 0) (xs : List X) → All P xs → AllByRecursion P xs
  by_recursion P [] all = tt
  by_recursion P (x ∷ xs) all = (all 0 x (omega arith), by_recursion P xs (λ k d l. all (suc k) d (omega (arith, l))))

  -- two facts, of those that are kept
  pub kept_of : (A B C : X → Type 0) (keep : X → Bool) → ((x : X) → keep x ≡ true → A x → B x → C x) → (xs : List X) → AllByRecursion A xs → AllByRecursion B xs → AllByRecursion C (filter keep xs)
  kept_of A B C keep so [] a b = tt
  kept_of A B C keep so (x ∷ xs) a b = by (keep x) refl (kept_of A B C keep so xs a.1 b.1)
    where
      by : (q : Bool) → keep x ≡ q → AllByRecursion C (filter keep xs) → AllByRecursion C (if q then x ∷ filter keep xs else filter keep xs)
      by true e rest = (so x e a.0 b.0, rest)
      by false e rest = rest

  pub all_push : (P : X → Type 0) (xs : List X) (y : X) → AllByRecursion P xs → P y → AllByRecursion P (xs ++ y ∷ [])
  all_push P [] y all last = (last, tt)
  all_push P (x ∷ xs) y all last = (all.0, all_push P xs y all.1 last)

  some_is : (a b : X) → Some a ≡ Some b → a ≡ b
  some_is a b e = cc e

  passes_on : (p q : X → Bool) (xs : List X) (b : X) → find q xs ≡ Some b → p b ≡ true → 1 ≤ length (filter p xs)
  passes_on p q [] b is has = absurd (cc is)
  passes_on p q (x ∷ xs) b is has = by (q x) (p x) refl is (λ f. passes_on p q xs b f has)
    where
      long : (r : Bool) → 1 ≤ length (filter p xs) → 1 ≤ length (if r then x ∷ filter p xs else filter p xs)
      long true l = omega arith
      long false l = l

      by : (r t : Bool) → p x ≡ t → cond r (Some x) (find q xs) ≡ Some b → (find q xs ≡ Some b → 1 ≤ length (filter p xs)) → 1 ≤ length (if t then x ∷ filter p xs else filter p xs)
      by true true e f ih = omega arith
      by true false e f ih = absurd (let h = ap p (some_is x b f) in cc (h, has, e))
      by false t e f ih = long t (ih f)

  -- what two searches find that passes one test, which only one passes, is one
  pub found_same : (p q : X → Bool) (xs : List X) (a b : X) → length (filter p xs) ≤ 1 → find p xs ≡ Some a → find q xs ≡ Some b → p b ≡ true → a ≡ b
  found_same p q [] a b few first other has = absurd (cc first)
  found_same p q (x ∷ xs) a b few first other has = by (p x) (q x) refl few first other (λ few2 f g. found_same p q xs a b few2 f g has)
    where
      by : (t r : Bool) → p x ≡ t → length (if t then x ∷ filter p xs else filter p xs) ≤ 1 → cond t (Some x) (find p xs) ≡ Some a → cond r (Some x) (find q xs) ≡ Some b
          → (length (filter p xs) ≤ 1 → find p xs ≡ Some a → find q xs ≡ Some b → a ≡ b) → a ≡ b
      by true true e few f g ih = sym (some_is x a f) ∙ some_is x b g
      by true false e few f g ih = absurd (let l = passes_on p q xs b g has in omega (arith, l, few))
      by false true e few f g ih = absurd (let h = ap p (some_is x b g) in cc (h, has, e))
      by false false e few f g ih = ih few f g

module _ {X Z : Type 0} (f : X → Z) where
  pub kept_map : (p : Z → Bool) (xs : List X) → map f (filter (λ x. p (f x)) xs) ≡ filter p (map f xs)
  kept_map p [] = refl
  kept_map p (x ∷ xs) = by (p (f x)) (kept_map p xs)
    where
      by : (q : Bool) → map f (filter (λ y. p (f y)) xs) ≡ filter p (map f xs)
          → map f (if q then x ∷ filter (λ y. p (f y)) xs else filter (λ y. p (f y)) xs) ≡ (if q then f x ∷ filter p (map f xs) else filter p (map f xs))
      by true ih = ap (λ (l : List Z). f x ∷ l) ih
      by false ih = ih

  pub all_seen : (P : Z → Type 0) (xs : List X) → AllByRecursion (λ x. P (f x)) xs → AllByRecursion P (map f xs)
  all_seen P [] all = tt
  all_seen P (x ∷ xs) all = (all.0, all_seen P xs all.1)

  pub all_back : (P : Z → Type 0) (xs : List X) → AllByRecursion P (map f xs) → AllByRecursion (λ x. P (f x)) xs
  all_back P [] all = tt
  all_back P (x ∷ xs) all = (all.0, all_back P xs all.1)
