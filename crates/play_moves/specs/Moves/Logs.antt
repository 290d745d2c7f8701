-- That a log that is by acts is the grouping of a history that keeps all that is promised of histories.
use Rattle.std.specs.Prelude.{ℕ, Bool, List}
use Rattle.run_schedules.specs.Schedules.After.{AtEachEvent}
use Rattle.run_schedules.specs.Schedules.Entry.{Entry}
use Rattle.run_schedules.specs.Schedules.Terms.{Terms}
use Rattle.run_legal.specs.Given.PointsSteps.{AreLawful}
use Rattle.play_linear.specs.Given.GroupedByActs.{IsByActs}
use Rattle.play_moves.specs.Moves.Legal.{KeepsAll}

module _ {K S : Type 0} (V : Type 0) (same : K → K → Bool) (by_hasher : S → K → ℕ) where
  -- The promise: where the hashers are lawful, each entry of the history of which such a log is the grouping keeps all of it.
  abbrev pub LogsKeepAll : Type 0
  LogsKeepAll =
      ((hasher : S) → AreLawful same (by_hasher hasher)) → (hasher : S) (terms : Terms) (log : List (Entry K V)) (by : IsByActs same by_hasher hasher terms log) (value : V)
      → AtEachEvent (KeepsAll same terms) (by.played value).1.after.history
