-- What is at a place of a list of which one was replaced, or that has one more.
use Rattle.std.specs.Prelude.{◌≢◌, ◌++◌, Some, None, slice_get, slice_set}
use Rattle.std.proofs.Common.{◌≡◌, ℕ, zero, suc, List, [], ◌∷◌, ◌⊎◌, inl, inr, refl, ap}

module _ {X : Type 0} where
  pub there : (l : List X) (i : ℕ) (x y : X) → slice_get l i ≡ Some y → slice_get (slice_set l i x) i ≡ Some x
  there [] i x y e = absurd (cc e)
  there (a ∷ l) zero x y e = refl
  there (a ∷ l) (suc i) x y e = there l i x y e

  pub elsewhere : (l : List X) (i j : ℕ) (x : X) → j ≢ i → slice_get (slice_set l i x) j ≡ slice_get l j
  elsewhere [] i j x ne = refl
  elsewhere (a ∷ l) zero zero x ne = absurd (ne refl)
  elsewhere (a ∷ l) zero (suc j) x ne = refl
  elsewhere (a ∷ l) (suc i) zero x ne = refl
  elsewhere (a ∷ l) (suc i) (suc j) x ne = elsewhere l i j x (λ e. ne (ap suc e))

  -- who is among them with one more was there, or is the one, where nobody was
  pub with_last : (l : List X) (j : ℕ) (x y : X) → slice_get (l ++ x ∷ []) j ≡ Some y → (slice_get l j ≡ Some y) ⊎ ((slice_get l j ≡ None) × (x ≡ y))
  with_last [] zero x y e = inr (refl, cc e)
  with_last [] (suc j) x y e = absurd (cc e)
  with_last (a ∷ l) zero x y e = inl e
  with_last (a ∷ l) (suc j) x y e = with_last l j x y e

  pub none_before : (l : List X) (j : ℕ) (x : X) → slice_get (l ++ x ∷ []) j ≡ None → slice_get l j ≡ None
  none_before [] j x e = refl
  none_before (a ∷ l) zero x e = e
  none_before (a ∷ l) (suc j) x e = none_before l j x e

  pub with_more : (l : List X) (j : ℕ) (x y : X) → slice_get l j ≡ Some y → slice_get (l ++ x ∷ []) j ≡ Some y
  with_more [] j x y e = absurd (cc e)
  with_more (a ∷ l) zero x y e = e
  with_more (a ∷ l) (suc j) x y e = with_more l j x y e
