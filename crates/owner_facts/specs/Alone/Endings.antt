-- Steps that terminate.
use Rattle.std.specs.Prelude.{◌≡◌, ℕ, List, length}
use Rattle.many_maps.specs.Given.PointsMeasures.{IsBelow}

-- each run of steps from here on terminates
pub data RunsEnd (X : Type 0) (step : X → X → Type 0) : X → Type 0 where
  runs_end : (x : X) → ((y : X) → step x y → RunsEnd X step y) → RunsEnd X step x

-- each step lowers these numbers, and leaves as many
abbrev pub StepsLower : (X : Type 0) → (X → X → Type 0) → (X → List ℕ) → Type 0
StepsLower X step number = (x y : X) → step x y → (length (number y) ≡ length (number x)) × IsBelow (number y) (number x)
