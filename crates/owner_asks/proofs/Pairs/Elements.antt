-- Elements of a set are found, left and put as the keys of pairs with no values.
use Rattle.std.specs.Prelude.{if◌then◌else◌}
use Rattle.std.specs.List.{IsDistinct}
use Rattle.std.specs.Map.{keys_of}
use Rattle.std.proofs.Common.{◌≡◌, Bool, true, false, cond, not, List, [], ◌∷◌, ◌++◌, Option, Some, None, find, is_some, option_map, refl, ap, sym, subst, ◌∙◌}
use Rattle.std.proofs.lemmas.List.{map-append}
use Rattle.std.proofs.lemmas.List.Sorted.{IsPermutation-map}
use Rattle.std.proofs.lemmas.Map.Keys.{IsDistinct-IsPermutation}
use Rattle.owner_calls.specs.Owned.Owned.{found_by, left_by}
use Rattle.owner_asks.specs.Pairs.Elements.{ElementInAnyOrder, ElementsApartInAnyOrder, LeftElementsInAnyOrder, OtherElementsStay, PutElementIsFound, left_in}
use Rattle.owner_asks.specs.Pairs.Equals.{with_no_values}
use Rattle.owner_asks.proofs.Pairs.Laws.{others_stay, put_is_found}
use Rattle.owner_asks.proofs.Pairs.Orders.{found_same, kept_in_any_order}

module _ {K : Type 0} where
  -- the element of a pair that is there
  abbrev element : Option (K × Unit {0}) → Option K
  element o = option_map (λ x. x.0) o

  keys_with_none : (xs : List K) → keys_of (with_no_values xs) ≡ xs
  keys_with_none [] = refl
  keys_with_none (x ∷ xs) = ap (λ l. x ∷ l) (keys_with_none xs)

  pub found_as : (test : K → Bool) (xs : List K) → find test xs ≡ element (found_by test (with_no_values xs))
  found_as test [] = refl
  found_as test (x ∷ xs) = by (test x) (found_as test xs)
    where
      by : (b : Bool) → find test xs ≡ element (found_by test (with_no_values xs)) → cond b (Some x) (find test xs) ≡ element (if b then Some (x, tt {0}) else found_by test (with_no_values xs))
      by true so = refl
      by false so = so

  pub there_as : (test : K → Bool) (xs : List K) → is_some (find test xs) ≡ is_some (found_by test (with_no_values xs))
  there_as test xs = ap is_some (found_as test xs) ∙ either (found_by test (with_no_values xs))
    where
      either : (o : Option (K × Unit {0})) → is_some (element o) ≡ is_some o
      either None = refl
      either (Some x) = refl

  left_as : (test : K → Bool) (xs : List K) → with_no_values (left_in test xs) ≡ left_by test (with_no_values xs)
  left_as test [] = refl
  left_as test (x ∷ xs) = by (test x) (left_as test xs)
    where
      by : (b : Bool) → with_no_values (left_in test xs) ≡ left_by test (with_no_values xs)
          → with_no_values (cond (not b) (x ∷ left_in test xs) (left_in test xs)) ≡ (if b then left_by test (with_no_values xs) else (x, tt {0}) ∷ left_by test (with_no_values xs))
      by true so = so
      by false so = ap (λ l. (x, tt {0}) ∷ l) so

  module _ (test others : K → Bool) (xs : List K) where
    found_left : find others (left_in test xs) ≡ element (found_by others (left_by test (with_no_values xs)))
    found_left = found_as others (left_in test xs) ∙ ap (λ l. element (found_by others l)) (left_as test xs)

    found_put : (x : K) → find others (left_in test xs ++ (x ∷ [])) ≡ element (found_by others (left_by test (with_no_values xs) ++ ((x, tt {0}) ∷ [])))
    found_put x =
        found_as others (left_in test xs ++ (x ∷ []))
        ∙ ap (λ l. element (found_by others l)) (map-append (λ y. (y, tt {0})) (left_in test xs) (x ∷ []) ∙ ap (λ l. l ++ ((x, tt {0}) ∷ [])) (left_as test xs))

module _ (K : Type 0) where
  pub element_in_any_order : ElementInAnyOrder K
  element_in_any_order same classes test class xs ys apart order =
      found_as test ys
      ∙ ap element
      (found_same same classes test class (with_no_values xs) (with_no_values ys) (subst (IsDistinct same) (sym (keys_with_none xs)) apart)
      (IsPermutation-map (λ x. (x, tt {0})) xs ys order))
      ∙ sym (found_as test xs)

  pub left_elements_in_any_order : LeftElementsInAnyOrder K
  left_elements_in_any_order test xs ys order = kept_in_any_order (λ x. not (test x)) xs ys order

  pub elements_apart_in_any_order : ElementsApartInAnyOrder K
  elements_apart_in_any_order same classes xs ys apart order = IsDistinct-IsPermutation same classes.symm xs ys order apart

  pub put_element_is_found : PutElementIsFound K
  put_element_is_found test xs =
      let so = put_is_found K (Unit {0}) test (with_no_values xs) in
      (found_left test test xs ∙ ap element so.0, λ x its. found_put test test xs x ∙ ap element (so.1 (x, tt {0}) its))

  pub other_elements_stay : OtherElementsStay K
  other_elements_stay test others apart xs =
      let so = others_stay K (Unit {0}) test others apart (with_no_values xs) in (
        found_left test others xs ∙ ap element so.0 ∙ sym (found_as others xs),
        λ x its. found_put test others xs x ∙ ap element (so.1 (x, tt {0}) its) ∙ sym (found_as others xs),
      )
