-- Pairs that are put one after another, and clones of them.
use Rattle.std.specs.Prelude.{if◌then◌else◌}
use Rattle.std.specs.Cmp.{IsEquivalence}
use Rattle.std.specs.List.{AllByRecursion, AllZip, IsDistinct}
use Rattle.std.specs.List.Sorted.{IsPermutation}
use Rattle.std.specs.Map.{keys_of}
use Rattle.std.proofs.Common.{◌≡◌, Bool, false, List, [], ◌∷◌, ◌++◌, Option, Some, refl, ap, sym, subst, ◌∙◌, append_assoc, append-nil}
use Rattle.std.proofs.lemmas.List.Elements.{same_from_all_zip}
use Rattle.std.proofs.lemmas.List.Sorted.{IsPermutation-trans}
use Rattle.std.proofs.lemmas.Map.Keys.{IsDistinct-head, IsDistinct-tail}
use Rattle.owner_calls.specs.Owned.Owned.{found_by, left_by}
use Rattle.owner_asks.specs.Pairs.Puts.{put, put_all, last_put, last_taken, ClonesAreSame, IsCloneOf}
use Rattle.owner_asks.proofs.Pairs.Orders.{left_and}

pub in_midst_of_keys : {K V : Type 0} (P : K → Type 0) (xs : List (K × V)) (y : K × V) (zs : List (K × V)) → AllByRecursion P (keys_of (xs ++ (y ∷ zs))) → P y.0
in_midst_of_keys P [] y zs so = so.0
in_midst_of_keys P (x ∷ xs) y zs so = in_midst_of_keys P xs y zs so.1

module _ {K V : Type 0} (same : K → K → Bool) where
  pub put_last : (xs ys : List (K × V)) (y : K × V) → put_all same xs (ys ++ (y ∷ [])) ≡ put same (put_all same xs ys) y
  put_last xs [] y = refl
  put_last xs (z ∷ ys) y = put_last (put same xs z) ys y

  pub put_in_any_order : (xs ys : List (K × V)) (y : K × V) → IsPermutation xs ys → IsPermutation (put same xs y) (put same ys y)
  put_in_any_order xs ys y order = left_and (same y.0) xs ys (y ∷ []) order

  -- one more was put
  pub puts_more : (old given new newer : List (K × V)) (x : K × V) → IsPermutation new (put_all same old given) → IsPermutation newer (put same new x)
      → IsPermutation newer (put_all same old (given ++ (x ∷ [])))
  puts_more old given new newer x so more =
      subst (IsPermutation newer) (sym (put_last old given x))
      (IsPermutation-trans newer (put same new x) (put same (put_all same old given) x) more (put_in_any_order new (put_all same old given) x so))

  module _ (classes : IsEquivalence same) where
    -- where no key equals one before, each is put behind the others
    none_before : (xs : List (K × V)) (y : K × V) (ys : List (K × V)) → IsDistinct same (keys_of (xs ++ (y ∷ ys))) → left_by (same y.0) xs ≡ xs
    none_before [] y ys apart = refl
    none_before (x ∷ xs) y ys apart =
        let other : same y.0 x.0 ≡ false = classes.symm y.0 x.0 ∙ in_midst_of_keys (λ k. same x.0 k ≡ false) xs y ys (IsDistinct-head same x.0 (keys_of (xs ++ (y ∷ ys))) apart) in
        ap (λ (b : Bool). if b then left_by (same y.0) xs else x ∷ left_by (same y.0) xs) other
        ∙ ap (λ l. x ∷ l) (none_before xs y ys (IsDistinct-tail same x.0 (keys_of (xs ++ (y ∷ ys))) apart))

    pub apart_are_put : (xs ys : List (K × V)) → IsDistinct same (keys_of (xs ++ ys)) → put_all same xs ys ≡ xs ++ ys
    apart_are_put xs [] apart = sym (append-nil xs)
    apart_are_put xs (y ∷ ys) apart =
        ap (λ l. put_all same (l ++ (y ∷ [])) ys) (none_before xs y ys apart)
        ∙ apart_are_put (xs ++ (y ∷ [])) ys (subst (λ l. IsDistinct same (keys_of l)) (sym (append_assoc xs (y ∷ []) ys)) apart)
        ∙ append_assoc xs (y ∷ []) ys

  -- what the last of them took out, where one more was put
  pub taken_last : (before : Option (K × V)) (xs ys : List (K × V)) (y : K × V) → last_taken same before xs (ys ++ (y ∷ [])) ≡ found_by (same y.0) (put_all same xs ys)
  taken_last before xs [] y = refl
  taken_last before xs (z ∷ ys) y = taken_last (found_by (same z.0) xs) (put same xs z) ys y

  module _ (key_clone : K → K → Type 0) (value_clone : V → V → Type 0) (keys_so : ClonesAreSame key_clone) (values_so : ClonesAreSame value_clone) where
    pub clones_same : (originals clones new : List (K × V)) → AllZip (IsCloneOf key_clone value_clone) originals clones → IsPermutation new (put_all same [] clones)
        → IsPermutation new (put_all same [] originals)
    clones_same originals clones new each =
        subst (λ l. IsPermutation new (put_all same [] l))
        (same_from_all_zip (IsCloneOf key_clone value_clone) originals clones each (λ x y c i. (keys_so x.0 y.0 c.0 i, values_so x.1 y.1 c.1 i)))

    pub clones_same_apart : IsEquivalence same → (originals clones new : List (K × V)) → IsDistinct same (keys_of originals) → AllZip (IsCloneOf key_clone value_clone) originals clones
        → IsPermutation new (put_all same [] clones) → IsPermutation new originals
    clones_same_apart classes originals clones new apart each so = subst (IsPermutation new) (apart_are_put classes [] originals apart) (clones_same originals clones new each so)

-- the last one that was put, where one more was
pub put_is_last : {X : Type 0} (before : Option X) (xs : List X) (x : X) → last_put before (xs ++ (x ∷ [])) ≡ Some x
put_is_last before [] x = refl
put_is_last before (y ∷ xs) x = put_is_last (Some y) xs x
