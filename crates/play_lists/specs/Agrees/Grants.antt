-- Of each entry of a history: what was refused was asked for, and nothing was made.
use Rattle.run_schedules.specs.Schedules.After.{AtEachEvent}
use Rattle.std.specs.Prelude.{List}
use Rattle.run_schedules.specs.Deeds.Deeds.{Entry}
use Rattle.run_schedules.specs.Deeds.History.{Refuses}

abbrev pub EachRefuses : {K V : Type 0} → List (Entry K V) → Type 0
EachRefuses log = AtEachEvent (λ before e. Refuses e.refused e.effects) log
