-- With those that are left it comes to all, in each map.
use Rattle.std.specs.Prelude.{◌≡◌, ◌++◌, ℕ, drop, Some}
use Rattle.run_effects.specs.Tallies.ByMap.{numbers_in}
use Rattle.run_effects.specs.Tallies.Tally.{numbers_at, passes}
use Rattle.run_effects.proofs.by_map.ByMap.of.Given as goal

abbrev pub invariant-loop-place : goal.invariant-loop-place
invariant-loop-place l = (map : ℕ) → numbers_in map l.by_map ++ numbers_at (passes (Some map)) l.place (drop l.place l.pairs) ≡ numbers_at (passes (Some map)) 0 l.pairs
