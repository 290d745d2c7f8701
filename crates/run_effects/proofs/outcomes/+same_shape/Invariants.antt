-- The tables that are left.
use Rattle.std.specs.Prelude.{length}
use Rattle.run_effects.proofs.outcomes.+same_shape.Given as goal

abbrev pub decreases-same_shape : goal.decreases-same_shape
decreases-same_shape a = length a.one.now
