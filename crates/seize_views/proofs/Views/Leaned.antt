-- Steps leave those who lean on a seat on one whose section is open, and holds what they have seen.
use Rattle.std.specs.Prelude.{◌≢◌, Some, None, ◌++◌, slice_get, slice_set}
use Rattle.std.proofs.Common.{◌≡◌, ℕ, true, List, [], ◌∷◌, ◌⊎◌, inl, inr, sym, subst, ap, ◌∙◌}
use Rattle.std.proofs.lemmas.Bool.{cases_eq}
use Rattle.seize.specs.Law.{Effect, holds}
use Rattle.seize_views.specs.Views.Watched.{open_at, LeansOn, IsOwn, IsBase, Upholds, AreLeaned}
use Rattle.seize_views.specs.declared.view.Noted.{Noted}
use Rattle.seize_views.specs.declared.view.SlotView.{SlotView}
use Rattle.seize_views.specs.declared.view.SlotView.TheVariants.{Under}
use Rattle.seize_views.proofs.Views.Lists.{there, elsewhere, with_last, with_more}
use Rattle.seize_words.proofs.General.{same_some}

pub own_under : {T : Type 0} (x : SlotView T) (n t b : ℕ) → IsOwn x → x ≡ Under n t b → ⊥
own_under x n t b own e = subst IsOwn e own

module _ {T : Type 0} (seats : List (Noted T)) (log log2 : List Effect) (al : AreLeaned seats log)
    (stay : (n t b : ℕ) → IsBase seats n t → holds t b log ≡ true → holds t b log2 ≡ true) where
  -- ---- a step of a seat
  module _ (id : ℕ) (v u : Noted T) (at : slice_get seats id ≡ Some v)
      (mine : (n t b : ℕ) → u.knows ≡ Under n t b → (n ≢ id) × IsBase seats n t × (b ≢ 0 → holds t b log2 ≡ true))
      (upholds : Upholds seats id v.knows u.knows) where
    abbrev seats2 : List (Noted T)
    seats2 = slice_set seats id u

    here : (j : ℕ) (x : Noted T) → j ≡ id → slice_get seats2 j ≡ Some x → x ≡ u
    here j x is e = sym (same_some u x (sym (there seats id u v at) ∙ ap (slice_get seats2) (sym is) ∙ e))

    before : (j : ℕ) (x : Noted T) → j ≢ id → slice_get seats2 j ≡ Some x → slice_get seats j ≡ Some x
    before j x ne e = sym (elsewhere seats id j u ne) ∙ e

    -- who leans on it leans on an open section still
    upheld : (j t b : ℕ) (x : Noted T) → slice_get seats j ≡ Some x → x.knows ≡ Under id t b → open_at v.knows ≡ Some t → open_at u.knows ≡ Some t
    upheld j t b x e is is_open = by upholds
      where
        by : Upholds seats id v.knows u.knows → open_at u.knows ≡ Some t
        by (inl same) = same ∙ is_open
        by (inr (inl none)) = absurd (cc (none, is_open))
        by (inr (inr nobody)) = absurd (nobody j x e (subst (λ (y : SlotView T). LeansOn y id) (sym is) (λ i. id)))

    pub steps_leaned : AreLeaned seats2 log2
    steps_leaned = record { based = λ j n t b x e is. based j n t b x e is (cases_eq j id); seen = λ j n t b x e is some. seen j n t b x e is some (cases_eq j id) }
      where
        moved : (n t : ℕ) (k : IsBase seats n t) → (n ≡ id → open_at u.knows ≡ Some t) → (n ≡ id) ⊎ (n ≢ id) → IsBase seats2 n t
        moved n t k is_open (inl is) = (u, ap (slice_get seats2) is ∙ there seats id u v at, is_open is)
        moved n t k is_open (inr ne) = (k.0, elsewhere seats id n u ne ∙ k.1, k.2)

        based : (j n t b : ℕ) (x : Noted T) → slice_get seats2 j ≡ Some x → x.knows ≡ Under n t b → (j ≡ id) ⊎ (j ≢ id) → IsBase seats2 n t
        based j n t b x e is (inl same) =
            let k = mine n t b (ap (λ (y : Noted T). y.knows) (sym (here j x same e)) ∙ is) in moved n t k.1 (λ z. absurd (k.0 z)) (inr k.0)
        based j n t b x e is (inr ne) =
            let f = before j x ne e in let k = al.based j n t b x f is in
            moved n t k (λ z. upheld j t b x f (is ∙ ap (λ (m : ℕ). Under m t b) z)
            (ap (λ (y : Noted T). open_at y.knows) (same_some v k.0 (sym at ∙ ap (slice_get seats) (sym z) ∙ k.1)) ∙ k.2)) (cases_eq n id)

        seen : (j n t b : ℕ) (x : Noted T) → slice_get seats2 j ≡ Some x → x.knows ≡ Under n t b → b ≢ 0 → (j ≡ id) ⊎ (j ≢ id) → holds t b log2 ≡ true
        seen j n t b x e is some (inl same) = (mine n t b (ap (λ (y : Noted T). y.knows) (sym (here j x same e)) ∙ is)).2 some
        seen j n t b x e is some (inr ne) = let f = before j x ne e in stay n t b (al.based j n t b x f is) (al.seen j n t b x f is some)

  -- ---- one seat more, which leans on nobody
  pub joins_leaned : (x : Noted T) → IsOwn x.knows → AreLeaned (seats ++ x ∷ []) log2
  joins_leaned x own = record {
    based = λ j n t b y e is. (let k = al.based j n t b y (was j n t b y is (with_last seats j x y e)) is in (k.0, with_more seats n x k.0 k.1, k.2));
    seen = λ j n t b y e is some. (let f = was j n t b y is (with_last seats j x y e) in stay n t b (al.based j n t b y f is) (al.seen j n t b y f is some));
  }
    where
      was : (j n t b : ℕ) (y : Noted T) → y.knows ≡ Under n t b → (slice_get seats j ≡ Some y) ⊎ ((slice_get seats j ≡ None) × (x ≡ y)) → slice_get seats j ≡ Some y
      was j n t b y is (inl e) = e
      was j n t b y is (inr e) = absurd (own_under x.knows n t b own (ap (λ (z : Noted T). z.knows) e.1 ∙ is))
