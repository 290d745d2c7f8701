-- Lists of numbers in which each is as often as in the other: what they stand for is the same, in another order.
use Rattle.std.specs.List.Sorted.{IsPermutation}
use Rattle.std.proofs.Common.{◌≡◌, ℕ, ◌+◌, ◌<◌, ◌==◌, Bool, true, false, List, [], ◌∷◌, ◌++◌, if◌then◌else◌, refl, ap, sym, subst, ◌∙◌, arith, append_assoc}
use Rattle.std.proofs.lemmas.Bool.{eqb-true}
use Rattle.std.proofs.lemmas.List.Sorted.{IsPermutation-refl, IsPermutation-trans, IsPermutation-append_comm, IsPermutation-append_left, IsPermutation-append_right}
use Rattle.seize.specs.World.{times}

-- what the numbers stand for, one behind the other
abbrev pub all_of : {X : Type 0} → (ℕ → List X) → List ℕ → List X
all_of of [] = []
all_of of (n ∷ numbers) = of n ++ all_of of numbers

pub all_of-append : {X : Type 0} (of : ℕ → List X) (xs ys : List ℕ) → all_of of (xs ++ ys) ≡ all_of of xs ++ all_of of ys
all_of-append of [] ys = refl
all_of-append of (x ∷ xs) ys = ap (λ l. of x ++ l) (all_of-append of xs ys) ∙ sym (append_assoc (of x) (all_of of xs) (all_of of ys))

-- two lists, one behind the other
pub times_append : (n : ℕ) (xs ys : List ℕ) → times n (xs ++ ys) ≡ times n xs + times n ys
times_append n [] ys = omega arith
times_append n (x ∷ xs) ys = let h = times_append n xs ys in grind (arith, h)

-- where a number is in a list
record Splits (n : ℕ) (xs : List ℕ) : Type 0 where
  before : List ℕ
  after : List ℕ
  is : xs ≡ before ++ n ∷ after

splits : (n : ℕ) (xs : List ℕ) → 0 < times n xs → Splits n xs
splits n [] some = absurd (omega (arith, some))
splits n (x ∷ xs) some = by (splits n xs) (n == x) refl
  where
    by : (0 < times n xs → Splits n xs) → (b : Bool) → (n == x) ≡ b → Splits n (x ∷ xs)
    by on true e = record { before = []; after = xs; is = ap (λ y. y ∷ xs) (sym (eqb-true n x e)) }
    by on false e =
        let rest = on (let c = ap (λ (b : Bool). (if b then 1 else 0) + times n xs) e in omega (arith, some, c)) in
        record { before = x ∷ rest.before; after = rest.after; is = ap (λ l. x ∷ l) rest.is }

module _ {X : Type 0} (of : ℕ → List X) where
  -- one of them in front
  to_front : (n : ℕ) (before after : List ℕ) → IsPermutation (of n ++ all_of of (before ++ after)) (all_of of (before ++ n ∷ after))
  to_front n before after =
      subst (λ l. IsPermutation (of n ++ l) (all_of of (before ++ n ∷ after))) (sym (all_of-append of before after))
      (subst (λ l. IsPermutation (of n ++ (all_of of before ++ all_of of after)) l) (sym (all_of-append of before (n ∷ after)))
      (subst (λ l. IsPermutation l (all_of of before ++ (of n ++ all_of of after))) (append_assoc (of n) (all_of of before) (all_of of after))
      (subst (λ l. IsPermutation ((of n ++ all_of of before) ++ all_of of after) l) (append_assoc (all_of of before) (of n) (all_of of after))
      (IsPermutation-append_left (all_of of after) (of n ++ all_of of before) (all_of of before ++ of n) (IsPermutation-append_comm (of n) (all_of of before))))))

  pub permuted : (xs ys : List ℕ) → ((n : ℕ) → times n xs ≡ times n ys) → IsPermutation (all_of of xs) (all_of of ys)
  permuted [] [] same = IsPermutation-refl []
  permuted [] (y ∷ ys) same = absurd (let h = same y in grind (arith, h))
  permuted (x ∷ xs) ys same =
      let s = splits x ys (let h = same x in grind (arith, h)) in
      subst (λ l. IsPermutation (of x ++ all_of of xs) (all_of of l)) (sym s.is)
      (IsPermutation-trans (of x ++ all_of of xs) (of x ++ all_of of (s.before ++ s.after)) (all_of of (s.before ++ x ∷ s.after))
      (IsPermutation-append_right (of x) (all_of of xs) (all_of of (s.before ++ s.after)) (permuted xs (s.before ++ s.after) (λ n. left n s.before s.after s.is)))
      (to_front x s.before s.after))
    where
      left : (n : ℕ) (before after : List ℕ) → ys ≡ before ++ x ∷ after → times n xs ≡ times n (before ++ after)
      left n before after is =
          let a = same n ∙ ap (times n) is in
          let b = times_append n before (x ∷ after) in
          let d = times_append n before after in
          grind (arith, a, b, d)
