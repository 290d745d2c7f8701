-- Lists of numbers that are alike: what is behind them, and what is kept.
use Rattle.std.specs.Prelude.{◌==◌, ◌||◌, not, map, filter}
use Rattle.std.proofs.Common.{◌≡◌, ℕ, Bool, true, false, cond, List, [], ◌∷◌, ◌++◌, length, refl, sym, subst, arith, eqb-true}
use Rattle.std.proofs.lemmas.Bool.{eq-eqb, ne_eqb, eqb-false}
use Rattle.seize.specs.WaitingSets.{Further, further_of, further_of_all, is_one_of}
use Rattle.run_executor.specs.Given.SeizeWaitingChanges.{kept}
use Rattle.run_kept.specs.Models.Alike.{AreAlike, FurtherAlike, IsOneToOne}

module _ (R : ℕ → ℕ → Type 0) where
  pub append_alike : (xs ys zs ws : List ℕ) → AreAlike R xs ys → AreAlike R zs ws → AreAlike R (xs ++ zs) (ys ++ ws)
  append_alike [] [] zs ws h k = k
  append_alike [] (y ∷ ys) zs ws h k = absurd h
  append_alike (x ∷ xs) [] zs ws h k = absurd h
  append_alike (x ∷ xs) (y ∷ ys) zs ws h k = (h.0, append_alike xs ys zs ws h.1 k)

  pub length_alike : (xs ys : List ℕ) → AreAlike R xs ys → length xs ≡ length ys
  length_alike [] [] h = refl
  length_alike [] (y ∷ ys) h = absurd h
  length_alike (x ∷ xs) [] h = absurd h
  length_alike (x ∷ xs) (y ∷ ys) h = let ih = length_alike xs ys h.1 in omega (arith, ih)

  pub further_length : (fs gs : List Further) → FurtherAlike R fs gs → length fs ≡ length gs
  further_length [] [] h = refl
  further_length [] (g ∷ gs) h = absurd h
  further_length (f ∷ fs) [] h = absurd h
  further_length (f ∷ fs) (g ∷ gs) h = let ih = further_length fs gs h.2 in omega (arith, ih)

  module _ (one : IsOneToOne R) where
    eq_alike : (x y z w : ℕ) → R x y → R z w → (x == z) ≡ (y == w)
    eq_alike x y z w h k = by (x == z) refl
      where
        by : (b : Bool) → (x == z) ≡ b → b ≡ (y == w)
        by true e = sym (eq-eqb y w (one.left z y w (subst (λ (n : ℕ). R n y) (eqb-true x z e) h) k))
        by false e = sym (ne_eqb y w (λ q. eqb-false x z e (one.right x z w (subst (λ (n : ℕ). R x n) q h) k)))

    pub one_of_alike : (x y : ℕ) (xs ys : List ℕ) → R x y → AreAlike R xs ys → is_one_of x xs ≡ is_one_of y ys
    one_of_alike x y [] [] r h = refl
    one_of_alike x y [] (w ∷ ys) r h = absurd h
    one_of_alike x y (z ∷ xs) [] r h = absurd h
    one_of_alike x y (z ∷ xs) (w ∷ ys) r h = both (x == z) (y == w) _ _ (eq_alike x y z w r h.0) (one_of_alike x y xs ys r h.1)
      where
        both : (a b c d : Bool) → a ≡ b → c ≡ d → (a || c) ≡ (b || d)
        both a b c d e f = cc (e, f)

    pub further_of_alike : (x y : ℕ) (fs gs : List Further) → R x y → FurtherAlike R fs gs → AreAlike R (further_of x fs) (further_of y gs)
    further_of_alike x y [] [] r h = tt
    further_of_alike x y [] (g ∷ gs) r h = absurd h
    further_of_alike x y (f ∷ fs) [] r h = absurd h
    further_of_alike x y (f ∷ fs) (g ∷ gs) r h = by (f.behind == x) (g.behind == y) (eq_alike f.behind g.behind x y h.1 r) (further_of_alike x y fs gs r h.2)
      where
        by : (a b : Bool) → a ≡ b → AreAlike R (further_of x fs) (further_of y gs)
            → AreAlike R (map (λ (k : Further). k.number) (cond a (f ∷ filter (λ (k : Further). k.behind == x) fs) (filter (λ (k : Further). k.behind == x) fs)))
            (map (λ (k : Further). k.number) (cond b (g ∷ filter (λ (k : Further). k.behind == y) gs) (filter (λ (k : Further). k.behind == y) gs)))
        by true true e ih = (h.0, ih)
        by true false e ih = absurd (cc e)
        by false true e ih = absurd (cc e)
        by false false e ih = ih

    pub further_of_all_alike : (xs ys : List ℕ) (fs gs : List Further) → AreAlike R xs ys → FurtherAlike R fs gs → AreAlike R (further_of_all xs fs) (further_of_all ys gs)
    further_of_all_alike [] [] fs gs h k = tt
    further_of_all_alike [] (y ∷ ys) fs gs h k = absurd h
    further_of_all_alike (x ∷ xs) [] fs gs h k = absurd h
    further_of_all_alike (x ∷ xs) (y ∷ ys) fs gs h k =
        append_alike (further_of x fs) (further_of y gs) (further_of_all xs fs) (further_of_all ys gs) (further_of_alike x y fs gs h.0 k) (further_of_all_alike xs ys fs gs h.1 k)

    -- those behind other numbers
    pub kept_alike : (xs ys : List ℕ) (fs gs : List Further) → AreAlike R xs ys → FurtherAlike R fs gs → FurtherAlike R (kept xs fs) (kept ys gs)
    kept_alike xs ys [] [] h k = tt
    kept_alike xs ys [] (g ∷ gs) h k = absurd k
    kept_alike xs ys (f ∷ fs) [] h k = absurd k
    kept_alike xs ys (f ∷ fs) (g ∷ gs) h k =
        by (is_one_of f.behind xs) (is_one_of g.behind ys) (one_of_alike f.behind g.behind xs ys k.1 h) (kept_alike xs ys fs gs h k.2)
      where
        by : (a b : Bool) → a ≡ b → FurtherAlike R (kept xs fs) (kept ys gs)
            → FurtherAlike R (cond (not a) (f ∷ kept xs fs) (kept xs fs)) (cond (not b) (g ∷ kept ys gs) (kept ys gs))
        by true true e ih = ih
        by true false e ih = absurd (cc e)
        by false true e ih = absurd (cc e)
        by false false e ih = (k.0, k.1, ih)

    -- those behind another one
    pub rest_alike : (x y : ℕ) (fs gs : List Further) → R x y → FurtherAlike R fs gs
        → FurtherAlike R (filter (λ (k : Further). not (k.behind == x)) fs) (filter (λ (k : Further). not (k.behind == y)) gs)
    rest_alike x y [] [] r h = tt
    rest_alike x y [] (g ∷ gs) r h = absurd h
    rest_alike x y (f ∷ fs) [] r h = absurd h
    rest_alike x y (f ∷ fs) (g ∷ gs) r h = by (f.behind == x) (g.behind == y) (eq_alike f.behind g.behind x y h.1 r) (rest_alike x y fs gs r h.2)
      where
        left : List Further
        left = filter (λ (k : Further). not (k.behind == x)) fs

        right : List Further
        right = filter (λ (k : Further). not (k.behind == y)) gs

        by : (a b : Bool) → a ≡ b → FurtherAlike R left right → FurtherAlike R (cond (not a) (f ∷ left) left) (cond (not b) (g ∷ right) right)
        by true true e ih = ih
        by true false e ih = absurd (cc e)
        by false true e ih = absurd (cc e)
        by false false e ih = (h.0, h.1, ih)
