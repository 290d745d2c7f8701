-- How often blocks stand in lists.
use Rattle.std.specs.Prelude.{◌≢◌, if◌then◌else◌}
use Rattle.std.proofs.Common.{◌≡◌, ℕ, zero, suc, ◌+◌, ◌<◌, ◌≤◌, Bool, List, [], ◌∷◌, ◌++◌, refl, arith, ap, subst, ◌∙◌, inl, inr, ◌⊎◌, eq-eqb}
use Rattle.std.proofs.lemmas.Bool.{cases_eq, ne_eqb}
use Rattle.many_calls.specs.Given.SeizeWorld.{times}

pub times-append : (x : ℕ) (a b : List ℕ) → times x (a ++ b) ≡ times x a + times x b
times-append x [] b = omega arith
times-append x (y ∷ a) b = let k = times-append x a b in omega (arith, k)

pub times_here : (x : ℕ) (l : List ℕ) → times x (x ∷ l) ≡ suc (times x l)
times_here x l = let k = ap (λ (t : Bool). (if t then 1 else 0) + times x l) (eq-eqb x x refl) in omega (arith, k)

pub times_other : (x y : ℕ) (l : List ℕ) → x ≢ y → times x (y ∷ l) ≡ times x l
times_other x y l ne = let k = ap (λ (t : Bool). (if t then 1 else 0) + times x l) (ne_eqb x y ne) in omega (arith, k)

-- it is none of a list, nor of the one before it
pub none_before : (x y : ℕ) (back : List ℕ) → times x (back ++ y ∷ []) ≡ 0 → (times x back ≡ 0) × (x ≢ y)
none_before x y back e =
    let a = times-append x back (y ∷ []) in (
      omega (arith, a, e),
      λ is. let b = subst (λ (z : ℕ). times x (z ∷ []) ≡ 1) is (times_here x []) in omega (arith, a, b, e),
    )

-- the one that follows is none of those before it, where none stands there twice
pub next_apart : (x : ℕ) (all back rest : List ℕ) → ((y : ℕ) → times y all ≤ 1) → all ≡ back ++ x ∷ rest → (times x back ≡ 0) × (times x rest ≡ 0)
next_apart x all back rest once e =
    let a = ap (times x) e in
    let b = times-append x back (x ∷ rest) in
    let c = times_here x rest in
    let d = once x in (omega (arith, a, b, c, d), omega (arith, a, b, c, d))

-- nor is one of those that follow
pub later_apart : (x : ℕ) (all back rest : List ℕ) → ((y : ℕ) → times y all ≤ 1) → all ≡ back ++ rest → 0 < times x rest → times x back ≡ 0
later_apart x all back rest once e some =
    let a = ap (times x) e in let b = times-append x back rest in let d = once x in omega (arith, a, b, d, some)

-- one more stands before
pub one_more : {X : Type 0} (all back rest : List X) (x : X) → all ≡ back ++ x ∷ rest → all ≡ (back ++ x ∷ []) ++ rest
one_more {X = X} all back rest x e = e ∙ by back
  where
    by : (back : List X) → back ++ x ∷ rest ≡ (back ++ x ∷ []) ++ rest
    by [] = refl
    by (y ∷ back) = ap (λ (l : List X). y ∷ l) (by back)

pub some_here : (x : ℕ) (l : List ℕ) → 0 < times x (x ∷ l)
some_here x l = let a = times_here x l in omega (arith, a)

pub some_first : (x : ℕ) (a b : List ℕ) → 0 < times x a → 0 < times x (a ++ b)
some_first x a b some = let k = times-append x a b in omega (arith, k, some)

pub some_last : (x : ℕ) (a b : List ℕ) → 0 < times x b → 0 < times x (a ++ b)
some_last x a b some = let k = times-append x a b in omega (arith, k, some)

-- it stands in one of two
pub some_of_two : (x : ℕ) (a b : List ℕ) → 0 < times x (a ++ b) → (0 < times x a) ⊎ (0 < times x b)
some_of_two x a b some = by (times x a) refl
  where
    by : (k : ℕ) → times x a ≡ k → (0 < times x a) ⊎ (0 < times x b)
    by zero e = inr (let k = times-append x a b in omega (arith, k, some, e))
    by (suc k) e = inl (omega (arith, e))

-- or is the first
pub some_of_first : (x y : ℕ) (l : List ℕ) → 0 < times x (y ∷ l) → (x ≡ y) ⊎ (0 < times x l)
some_of_first x y l some =
    elim (cases_eq x y) as (λ _. (x ≡ y) ⊎ (0 < times x l)) [
      | inl e ↦ inl e
      | inr ne ↦ inr (let k = times_other x y l ne in omega (arith, k, some))
    ]
