-- Words that are the same.
use Rattle.std.specs.Prelude.{◌==◌, ◌&&◌, ◌↔◌, IsTrue}
use Rattle.std.proofs.Common.{◌≡◌, ℕ, Bool, true, false, List, [], ◌∷◌, refl, sym, ap, arith, eqb-true, ◌∙◌}
use Rattle.run_schedules.specs.Runs.Same.{is_same}

pub same_refl : (a : List ℕ) → is_same a a ≡ true
same_refl [] = refl
same_refl (x ∷ a) = let ih = same_refl a in grind (arith, ih)

pub same_is : (a b : List ℕ) → is_same a b ≡ true → a ≡ b
same_is [] [] e = refl
same_is [] (y ∷ b) e = absurd (cc e)
same_is (x ∷ a) [] e = absurd (cc e)
same_is (x ∷ a) (y ∷ b) e = one (x == y) (is_same a b) e (eqb-true x y) (same_is a b)
  where
    one : (t u : Bool) → (t && u) ≡ true → (t ≡ true → x ≡ y) → (u ≡ true → a ≡ b) → x ∷ a ≡ y ∷ b
    one true true e p q = let h = p refl in let k = q refl in cc (h, k)
    one true false e p q = absurd (cc e)
    one false u e p q = absurd (cc e)

-- a test that says whether two words are the same
pub same_by : (t : Bool) (a b : List ℕ) → (IsTrue t ↔ (a ≡ b)) → t ≡ is_same a b
same_by true a b h = let e = h.0 refl in sym (ap (λ (x : List ℕ). is_same a x) (sym e) ∙ same_refl a)
same_by false a b h = other (is_same a b) refl
  where
    other : (u : Bool) → is_same a b ≡ u → false ≡ u
    other true e = h.1 (same_is a b e)
    other false e = refl
