-- Pairs in another order: what is found among them, and what is left without some.
use Rattle.std.specs.Prelude.{◌≡◌, Bool, true, false, List, [], ◌∷◌, ◌++◌, Some, None}
use Rattle.std.specs.Cmp.{IsEquivalence}
use Rattle.std.specs.List.{IsDistinct}
use Rattle.std.specs.List.Sorted.{IsPermutation}
use Rattle.std.specs.Map.{keys_of}
use Rattle.owner_calls.specs.Owned.Owned.{found_by, left_by}

-- the keys that pass are one class, or there are none
abbrev pub IsOneClass : {K : Type 0} → (K → K → Bool) → (K → Bool) → Type 0
IsOneClass {K} same keys = (x y : K) → keys x ≡ true → keys y ≡ same x y

module _ (K V : Type 0) where
  -- where no two keys are equal, the same pair of a class is found in any order
  abbrev pub FoundInAnyOrder : Type 0
  FoundInAnyOrder =
      (same : K → K → Bool) → IsEquivalence same → (keys : K → Bool) → IsOneClass same keys → (xs ys : List (K × V)) → IsDistinct same (keys_of xs) → IsPermutation xs ys
      → found_by keys ys ≡ found_by keys xs

  -- without the pairs of some keys the same ones are left in any order
  abbrev pub LeftInAnyOrder : Type 0
  LeftInAnyOrder = (keys : K → Bool) (xs ys : List (K × V)) → IsPermutation xs ys → IsPermutation (left_by keys xs) (left_by keys ys)

  -- keys of which no two are equal are so in any order
  abbrev pub ApartInAnyOrder : Type 0
  ApartInAnyOrder =
      (same : K → K → Bool) → IsEquivalence same → (xs ys : List (K × V)) → IsDistinct same (keys_of xs) → IsPermutation xs ys → IsDistinct same (keys_of ys)

  -- a pair that was put in the place of those of some keys, its own among them, is found by them, and none of them is found where none was put
  abbrev pub PutIsFound : Type 0
  PutIsFound =
      (keys : K → Bool) (xs : List (K × V))
      → (found_by keys (left_by keys xs) ≡ None) × ((x : K × V) → keys x.0 ≡ true → found_by keys (left_by keys xs ++ (x ∷ [])) ≡ Some x)

  -- by other keys the same is found as before
  abbrev pub OthersStay : Type 0
  OthersStay =
      (keys others : K → Bool) → ((k : K) → keys k ≡ true → others k ≡ false) → (xs : List (K × V))
      → (found_by others (left_by keys xs) ≡ found_by others xs) × ((x : K × V) → keys x.0 ≡ true → found_by others (left_by keys xs ++ (x ∷ [])) ≡ found_by others xs)
