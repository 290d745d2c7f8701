-- What is so of each guard of a list, and which guard is found there.
use Rattle.std.specs.Prelude.{cond, filter, find, Some, if◌then◌else◌}
use Rattle.std.specs.List.{AllByRecursion}
use Rattle.std.proofs.Common.{◌≡◌, Bool, true, false, List, [], ◌∷◌, ◌++◌, refl, ap, sym, subst, ◌∙◌}

module _ {X : Type 0} where
  -- so it is of one more
  pub all_more : (P : X → Type 0) (xs : List X) (x : X) → AllByRecursion P xs → P x → AllByRecursion P (xs ++ x ∷ [])
  all_more P [] x all so = (so, tt)
  all_more P (y ∷ xs) x all so = (all.0, all_more P xs x all.1 so)

  -- and of another thing
  pub all_of : (P Q : X → Type 0) (xs : List X) → ((x : X) → P x → Q x) → AllByRecursion P xs → AllByRecursion Q xs
  all_of P Q [] so all = tt
  all_of P Q (x ∷ xs) so all = (so x all.0, all_of P Q xs so all.1)

  -- of those that are kept
  pub all_kept : (P Q : X → Type 0) (keep : X → Bool) (xs : List X) → ((x : X) → keep x ≡ true → P x → Q x) → AllByRecursion P xs → AllByRecursion Q (filter keep xs)
  all_kept P Q keep [] so all = tt
  all_kept P Q keep (x ∷ xs) so all = by (keep x) refl (all_kept P Q keep xs so all.1)
    where
      by : (q : Bool) → keep x ≡ q → AllByRecursion Q (filter keep xs) → AllByRecursion Q (if q then x ∷ filter keep xs else filter keep xs)
      by true e rest = (so x e all.0, rest)
      by false e rest = rest

  module _ (test keep : X → Bool) where
    -- what is found and kept is found among those that are
    pub found_kept : (xs : List X) (x : X) → find test xs ≡ Some x → keep x ≡ true → find test (filter keep xs) ≡ Some x
    found_kept [] x is kept = absurd (cc is)
    found_kept (y ∷ xs) x is kept = by (test y) refl (keep y) refl (λ later. found_kept xs x later kept) is
      where
        by : (p : Bool) → test y ≡ p → (q : Bool) → keep y ≡ q → (find test xs ≡ Some x → find test (filter keep xs) ≡ Some x) → cond p (Some y) (find test xs) ≡ Some x
            → find test (if q then y ∷ filter keep xs else filter keep xs) ≡ Some x
        by true e true f rest is_it = ap (λ (z : Bool). cond z (Some y) (find test (filter keep xs))) e ∙ is_it
        by true e false f rest is_it = absurd (let same : y ≡ x = (cc is_it) in cc (f, ap keep same, kept))
        by false e true f rest is_it = ap (λ (z : Bool). cond z (Some y) (find test (filter keep xs))) e ∙ rest is_it
        by false e false f rest is_it = rest is_it

  -- what is found is so
  pub found_so : (P : X → Type 0) (test : X → Bool) (xs : List X) (x : X) → AllByRecursion P xs → find test xs ≡ Some x → P x × (test x ≡ true)
  found_so P test [] x all is = absurd (cc is)
  found_so P test (y ∷ xs) x all is = by (test y) refl (λ rest. found_so P test xs x all.1 rest) is
    where
      by : (p : Bool) → test y ≡ p → (find test xs ≡ Some x → P x × (test x ≡ true)) → cond p (Some y) (find test xs) ≡ Some x → P x × (test x ≡ true)
      by true e later is_it = (let same : y ≡ x = (cc is_it) in (subst P same all.0, ap test (sym same) ∙ e))
      by false e later is_it = later is_it
