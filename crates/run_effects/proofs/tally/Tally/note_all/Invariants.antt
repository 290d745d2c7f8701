-- With the effects that are left it comes to all.
use Rattle.std.specs.Prelude.{drop}
use Rattle.run_effects.proofs.Tallies.Tallies.{Notes}
use Rattle.run_effects.proofs.tally.Tally.note_all.Given as goal

abbrev pub invariant-loop-effect : goal.invariant-loop-effect
invariant-loop-effect l = Notes l.map l.fn.self l.effects (drop l.effect-index l.effects) l.self
