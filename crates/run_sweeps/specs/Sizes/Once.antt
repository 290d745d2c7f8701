-- Where all pairs of a run are: among those that it gave back, or among those that it has kept.
use Rattle.std.specs.Prelude.{◌≡◌, ℕ, ◌&&◌, nat_le, Bool, List, ◌++◌, if◌then◌else◌}
use Rattle.run_finds.specs.Given.RunsLifeCycle.{times}
use Rattle.run_finds.specs.Given.RunsPairs.{numbers}
use Rattle.run_finds.specs.Given.RunsDeclared.event.Event.{Event}
use Rattle.run_finds.specs.Given.RunsDeclared.record.Run.{Run}
use Rattle.run_finds.specs.Given.SchedulesRuns.{IsRunOf}
use Rattle.run_finds.specs.Given.SchedulesTerms.{Terms}

module _ {K V : Type 0} where
  -- Each number, from 1 to how many pairs were stored, stands there once, and no other one does.
  abbrev pub HasEachOnce : Run K V → Type 0
  HasEachOnce run = (n : ℕ) → times n (numbers (run.given_back ++ run.kept)) ≡ (if nat_le 1 n && nat_le n run.stored then 1 else 0)

-- The promise: so it is of each run of a schedule.
abbrev pub RunsHaveEachOnce : Type 0 → Type 0 → Type 0
RunsHaveEachOnce K V = (eq : K → K → Bool) (terms : Terms) (schedule : List (Event K V)) (run : Run K V) → IsRunOf eq terms schedule run → HasEachOnce run
