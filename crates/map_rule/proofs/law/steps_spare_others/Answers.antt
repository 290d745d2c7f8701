-- A step of a caller leaves what is neither its own nor of its map as it was.
use Rattle.map_rule.proofs.World.BesideKept.{steps_spare_others}
use Rattle.map_rule.proofs.law.steps_spare_others.Goals as goal

pub returns : goal.returns
returns c d = record { kept = steps_spare_others _ }
