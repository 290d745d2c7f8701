-- Elements of a set in another order, once one was put in or some were removed: what is found among them, and what is left without some.
use Rattle.std.specs.Prelude.{◌≡◌, Bool, true, false, List, [], ◌∷◌, ◌++◌, Some, None, filter, find, not}
use Rattle.std.specs.Cmp.{IsEquivalence}
use Rattle.std.specs.List.{IsDistinct}
use Rattle.std.specs.List.Sorted.{IsPermutation}
use Rattle.owner_asks.specs.Pairs.Orders.{IsOneClass}

-- all elements but those that pass
abbrev pub left_in : {K : Type 0} → (K → Bool) → List K → List K
left_in test xs = filter (λ x. not (test x)) xs

module _ (K : Type 0) where
  -- where no two elements are equal, the same one of a class is found in any order
  abbrev pub ElementInAnyOrder : Type 0
  ElementInAnyOrder =
      (same : K → K → Bool) → IsEquivalence same → (test : K → Bool) → IsOneClass same test → (xs ys : List K) → IsDistinct same xs → IsPermutation xs ys
      → find test ys ≡ find test xs

  -- without those that pass the same ones are left in any order
  abbrev pub LeftElementsInAnyOrder : Type 0
  LeftElementsInAnyOrder = (test : K → Bool) (xs ys : List K) → IsPermutation xs ys → IsPermutation (left_in test xs) (left_in test ys)

  -- elements of which no two are equal are so in any order
  abbrev pub ElementsApartInAnyOrder : Type 0
  ElementsApartInAnyOrder = (same : K → K → Bool) → IsEquivalence same → (xs ys : List K) → IsDistinct same xs → IsPermutation xs ys → IsDistinct same ys

  -- an element that was put in the place of those that pass, itself one of them, is found by the test, and none is found where none was put
  abbrev pub PutElementIsFound : Type 0
  PutElementIsFound =
      (test : K → Bool) (xs : List K)
      → (find test (left_in test xs) ≡ None) × ((x : K) → test x ≡ true → find test (left_in test xs ++ (x ∷ [])) ≡ Some x)

  -- by a test that none of them passes the same is found as before
  abbrev pub OtherElementsStay : Type 0
  OtherElementsStay =
      (test others : K → Bool) → ((x : K) → test x ≡ true → others x ≡ false) → (xs : List K)
      → (find others (left_in test xs) ≡ find others xs) × ((x : K) → test x ≡ true → find others (left_in test xs ++ (x ∷ [])) ≡ find others xs)
