-- That a map and a set are read back of what they were written as.
use Rattle.std.specs.Prelude.{◌≡◌, ◌↔◌, ℕ, Bool, true, IsTrue, List}
use Rattle.std.specs.Cmp.{IsEquivalence}
use Rattle.std.specs.List.{Contains}
use Rattle.serde_json.specs.Data.{Data}
use Rattle.map_forms.specs.Arrays.{HasElements}
use Rattle.map_forms.specs.Objects.{IsObjectOf}
use Rattle.owner_map.specs.Given.{agree, with_no_values}

-- Sets that one array has are equal, where just those of their elements are equal that have the same value.
abbrev pub OneArrayOneSet : Type 0 → Type 0
OneArrayOneSet K =
    (same : K → K → Bool) → IsEquivalence same → (value : K → Data) (xs ys : List K) → ((x y : K) → Contains xs x → Contains ys y → IsTrue (same x y) ↔ (value x ≡ value y))
    → (d : Data) → HasElements value xs d → HasElements value ys d → agree same (λ _ _. true) (with_no_values xs) (with_no_values ys) ≡ true

-- Maps that one object has are equal, where just those of their keys are equal that have the same text, and just those of their values that have the same value.
abbrev pub OneObjectOneMap : Type 0 → Type 0 → Type 0
OneObjectOneMap K V =
    (same : K → K → Bool) → IsEquivalence same → (equal : V → V → Bool) (text : K → List ℕ) (value : V → Data) (xs ys : List (K × V))
    → ((x y : K × V) → Contains xs x → Contains ys y → (IsTrue (same x.0 y.0) ↔ (text x.0 ≡ text y.0)) × (IsTrue (equal x.1 y.1) ↔ (value x.1 ≡ value y.1)))
    → (d : Data) → IsObjectOf text value xs d → IsObjectOf text value ys d → agree same equal xs ys ≡ true
