-- What is told of maps at the end of a run.
use Rattle.std.specs.Prelude.{ℕ, List, Some}
use Rattle.run_schedules.specs.declared.ended.Living.{Living}
use Rattle.play_events.specs.Given.ExecutorDeclared.named_map.NamedMap.{NamedMap}
use Rattle.run_effects.specs.Tallies.Tally.{numbers_at, passes}
use Rattle.run_effects.specs.declared.tally.Tally.{Tally}

-- a map that lives, and what is told of it
abbrev pub shown_of : Living → List ℕ × List ℕ
shown_of living = (living.name, living.pairs.items)

abbrev pub map_reported : Tally → NamedMap → List ℕ × List ℕ
map_reported tally named = (named.name, numbers_at (passes (Some named.number)) 0 tally.pairs.items)
