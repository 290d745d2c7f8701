-- A map that was made of clones which equal their originals equals the map of these, and has as many pairs.
use Rattle.std.specs.Prelude.{if◌then◌else◌, suc, true, length}
use Rattle.std.specs.Cmp.{IsEquivalence}
use Rattle.std.specs.List.{AllByRecursion, AllZip, IsDistinct}
use Rattle.std.specs.List.Sorted.{IsPermutation}
use Rattle.std.specs.Map.{keys_of}
use Rattle.std.specs.Option.{option_eq}
use Rattle.std.proofs.Common.{◌≡◌, Bool, false, List, [], ◌∷◌, Some, refl, ap, sym, subst, ◌∙◌}
use Rattle.std.proofs.lemmas.List.Sorted.{IsPermutation-sym, length_permutation}
use Rattle.std.proofs.lemmas.Map.Keys.{IsDistinct-cons, IsDistinct-head, IsDistinct-tail}
use Rattle.owner_rests.specs.Given.{found_by}
use Rattle.owner_asks.specs.Pairs.Equals.{agree, agree_at, agree_from_each}
use Rattle.owner_asks.specs.Pairs.Puts.{IsCloneOf, put_all}
use Rattle.owner_asks.proofs.Pairs.Laws.{found_in_any_order}
use Rattle.owner_asks.proofs.Pairs.Puts.{apart_are_put}
use Rattle.owner_rests.specs.ShowsPairs.Stored.{ClonesAreEqual}

module _ {K V : Type 0} (same : K → K → Bool) (classes : IsEquivalence same) (equal : V → V → Bool) (key_clone : K → K → Type 0) (value_clone : V → V → Type 0)
    (keys_so : ClonesAreEqual same key_clone) (values_so : ClonesAreEqual equal value_clone) where
  abbrev Zip : List (K × V) → List (K × V) → Type 0
  Zip = AllZip (IsCloneOf key_clone value_clone)

  -- what differs from a key, its clone differs from the key's
  others_apart : (x y : K) → same x y ≡ true → (xs ys : List (K × V)) → Zip xs ys → AllByRecursion (λ k. same x k ≡ false) (keys_of xs) → AllByRecursion (λ k. same y k ≡ false) (keys_of ys)
  others_apart x y is [] [] each apart = tt
  others_apart x y is [] (b ∷ ys) each apart = absurd each
  others_apart x y is (a ∷ xs) [] each apart = absurd each
  others_apart x y is (a ∷ xs) (b ∷ ys) each apart = (
    sym (classes.congr x y b.0 is) ∙ classes.symm x b.0 ∙ sym (classes.congr a.0 b.0 x (keys_so a.0 b.0 each.0.0)) ∙ classes.symm a.0 x ∙ apart.0,
    others_apart x y is xs ys each.1 apart.1,
  )

  clones_apart : (xs ys : List (K × V)) → Zip xs ys → IsDistinct same (keys_of xs) → IsDistinct same (keys_of ys)
  clones_apart [] [] each apart = apart
  clones_apart [] (b ∷ ys) each apart = absurd each
  clones_apart (a ∷ xs) [] each apart = absurd each
  clones_apart (a ∷ xs) (b ∷ ys) each apart =
      IsDistinct-cons same b.0 (keys_of ys) (others_apart a.0 b.0 (keys_so a.0 b.0 each.0.0) xs ys each.1 (IsDistinct-head same a.0 (keys_of xs) apart))
      (clones_apart xs ys each.1 (IsDistinct-tail same a.0 (keys_of xs) apart))

  as_many : (xs ys : List (K × V)) → Zip xs ys → length ys ≡ length xs
  as_many [] [] each = refl
  as_many [] (b ∷ ys) each = absurd each
  as_many (a ∷ xs) [] each = absurd each
  as_many (a ∷ xs) (b ∷ ys) each = ap (λ n. suc n) (as_many xs ys each.1)

  agree_here : (q : K) (xs ys : List (K × V)) → Zip xs ys → agree_at same equal xs ys q ≡ true
  agree_here q [] [] each = refl
  agree_here q [] (b ∷ ys) each = absurd each
  agree_here q (a ∷ xs) [] each = absurd each
  agree_here q (a ∷ xs) (b ∷ ys) each = by (same q a.0) (same q b.0) alike (agree_here q xs ys each.1)
    where
      alike : same q a.0 ≡ same q b.0
      alike = classes.symm q a.0 ∙ classes.congr a.0 b.0 q (keys_so a.0 b.0 each.0.0) ∙ classes.symm b.0 q

      by : (m n : Bool) → m ≡ n → agree_at same equal xs ys q ≡ true
          → option_eq (λ x y. equal x.1 y.1) (if m then Some a else found_by (same q) xs) (if n then Some b else found_by (same q) ys) ≡ true
      by true true is rest = values_so a.1 b.1 each.0.1
      by true false is rest = absurd (cc is)
      by false true is rest = absurd (cc is)
      by false false is rest = rest

  pub clones_equal : (originals clones new : List (K × V)) → IsDistinct same (keys_of originals) → Zip originals clones → IsPermutation new (put_all same [] clones)
      → (agree same equal originals new ≡ true) × (length new ≡ length originals)
  clones_equal originals clones new apart each so = (
    agree_from_each same equal originals new (λ q. ap (λ o. option_eq (λ x y. equal x.1 y.1) (found_by (same q) originals) o) (found q) ∙ agree_here q originals clones each),
    sym (length_permutation new clones put_so) ∙ as_many originals clones each,
  )
    where
      clones_are : IsDistinct same (keys_of clones)
      clones_are = clones_apart originals clones each apart

      put_so : IsPermutation new clones
      put_so = subst (IsPermutation new) (apart_are_put same classes [] clones clones_are) so

      found : (q : K) → found_by (same q) new ≡ found_by (same q) clones
      found q = found_in_any_order K V same classes (same q) (classes.congr q) clones new clones_are (IsPermutation-sym new clones put_so)
