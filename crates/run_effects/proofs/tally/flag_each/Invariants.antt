-- The tables so far have their flags.
use Rattle.std.specs.Prelude.{◌≡◌, ◌++◌, drop, map, take}
use Rattle.run_effects.specs.Tallies.Tally.{flagged}
use Rattle.run_effects.proofs.tally.flag_each.Given as goal

abbrev pub invariant-loop-place : goal.invariant-loop-place
invariant-loop-place l =
    l.tables.items ≡ map (flagged l.fn.table l.fn.is_retired) (take l.place l.fn.tables.items) ++ drop l.place l.fn.tables.items
