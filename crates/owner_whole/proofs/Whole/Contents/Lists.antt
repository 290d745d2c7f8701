-- Lists of pairs, by the classes of their keys.
use Rattle.std.specs.Prelude.{◌≡◌, Bool, true, false, List, [], ◌∷◌, ◌++◌, Option, Some, None, if◌then◌else◌}
use Rattle.std.specs.Cmp.{IsEquivalence}
use Rattle.std.proofs.Common.{refl, ap, ◌∙◌}
use Rattle.owner_whole.specs.Whole.Contents.{pair_for, without, HasOneEach}

module _ {K V : Type 0} (same : K → K → Bool) where
  -- none was found there, so none further on
  none_here : (x : K × V) (b : Bool) (rest : Option (K × V)) → (if b then Some x else rest) ≡ None → (b ≡ false) × (rest ≡ None)
  none_here x true rest e = absurd (cc e)
  none_here x false rest e = (refl, e)

  -- a pair behind others that are of other classes
  pub pair_for-append : (k : K) (xs ys : List (K × V)) → pair_for same k xs ≡ None → pair_for same k (xs ++ ys) ≡ pair_for same k ys
  pair_for-append k [] ys none = refl
  pair_for-append k (x ∷ xs) ys none =
      let h = none_here x (same k x.0) (pair_for same k xs) none in
      ap (λ (b : Bool). if b then Some x else pair_for same k (xs ++ ys)) h.0 ∙ pair_for-append k xs ys h.1

  -- a pair before others
  pub pair_for-first : (k : K) (xs ys : List (K × V)) (x : K × V) → pair_for same k xs ≡ Some x → pair_for same k (xs ++ ys) ≡ Some x
  pair_for-first k [] ys x e = absurd (cc e)
  pair_for-first k (y ∷ xs) ys x e = by (same k y.0) (pair_for-first k xs ys x) e
    where
      by : (b : Bool) → (pair_for same k xs ≡ Some x → pair_for same k (xs ++ ys) ≡ Some x) → (if b then Some y else pair_for same k xs) ≡ Some x
          → (if b then Some y else pair_for same k (xs ++ ys)) ≡ Some x
      by true rest e = e
      by false rest e = rest e

  pub without-append : (k : K) (xs ys : List (K × V)) → without same k (xs ++ ys) ≡ without same k xs ++ without same k ys
  without-append k [] ys = refl
  without-append k (x ∷ xs) ys = by (same k x.0) (without-append k xs ys)
    where
      by : (b : Bool) → without same k (xs ++ ys) ≡ without same k xs ++ without same k ys
          → (if b then without same k (xs ++ ys) else x ∷ without same k (xs ++ ys)) ≡ (if b then without same k xs else x ∷ without same k xs) ++ without same k ys
      by true e = e
      by false e = ap (λ (l : List (K × V)). x ∷ l) e

  -- one more pair of a class of its own
  pub one_each_append : IsEquivalence same → (xs : List (K × V)) (x : K × V) → HasOneEach same xs → pair_for same x.0 xs ≡ None → HasOneEach same (xs ++ (x ∷ []))
  one_each_append classes [] x each none = (refl, tt)
  one_each_append classes (y ∷ ys) x each none =
      let h = none_here y (same x.0 y.0) (pair_for same x.0 ys) none in (
        pair_for-append y.0 ys (x ∷ []) each.0 ∙ ap (λ (b : Bool). if b then Some x else None) (classes.symm y.0 x.0 ∙ h.0),
        one_each_append classes ys x each.1 h.1,
      )
