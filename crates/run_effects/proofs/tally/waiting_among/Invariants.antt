-- With those that are left it comes to all.
use Rattle.std.specs.Prelude.{◌≡◌, ◌++◌, drop, None}
use Rattle.run_effects.specs.Tallies.Tally.{numbers_at, passes}
use Rattle.run_effects.proofs.tally.waiting_among.Given as goal

abbrev pub invariant-loop-place : goal.invariant-loop-place
invariant-loop-place l = l.numbers.items ++ numbers_at (passes None) l.place (drop l.place l.pairs) ≡ numbers_at (passes None) 0 l.pairs
