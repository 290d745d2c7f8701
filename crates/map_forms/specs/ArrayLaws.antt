-- What is so of all arrays of the same elements.
use Rattle.std.specs.Prelude.{◌≡◌, List}
use Rattle.std.specs.List.{All, Contains}
use Rattle.std.specs.List.Sorted.{IsPermutation}
use Rattle.serde_json.specs.Data.{Data}
use Rattle.map_forms.specs.Arrays.{HasElements, IsArrayOf}

-- each element of the one list has the value of one of the other, and the other way round
abbrev pub HaveSameValues : {K : Type 0} → (K → Data) → List K → List K → Type 0
HaveSameValues {K} value xs ys = All (λ x. (y : K) × Contains ys y × (value x ≡ value y)) xs × All (λ y. (x : K) × Contains xs x × (value y ≡ value x)) ys

-- Elements with the same values are written as one array.
abbrev pub ArraysAreOne : Type 0 → Type 0
ArraysAreOne K = (value : K → Data) (xs ys : List K) → HaveSameValues value xs ys → (a b : Data) → IsArrayOf value xs a → IsArrayOf value ys b → a ≡ b

-- An array that has these elements has them in any other order.
abbrev pub ArraysHaveNoOrder : Type 0 → Type 0
ArraysHaveNoOrder K = (value : K → Data) (xs ys : List K) → IsPermutation xs ys → (d : Data) → HasElements value xs d → HasElements value ys d

-- Elements that one array has have the same values.
abbrev pub ArraysTell : Type 0 → Type 0
ArraysTell K = (value : K → Data) (xs ys : List K) (d : Data) → HasElements value xs d → HasElements value ys d → HaveSameValues value xs ys
