-- What calls on whole maps have come to stays so where anything else happens than a step of a call.
use Rattle.std.specs.Prelude.{ℕ, Bool, List}
use Rattle.run_finds.specs.Given.HistoriesElsewhere.{StaysElsewhere}
use Rattle.run_finds.specs.Purposes.Purposes.{RefinesPurposes}
use Rattle.run_finds.specs.Given.SchedulesTransition.{Past}

module _ (K V : Type 0) (same : K → K → Bool) (hash : ℕ → K → ℕ) where
  -- The promise: it does where a row on a slot, the making and the end of a map begin and take their steps, and where a walk goes on or is given up.
  abbrev pub PurposesStay : Type 0
  PurposesStay = (name : ℕ → List ℕ) (log : Past K V) → StaysElsewhere same hash name (RefinesPurposes same name log)
