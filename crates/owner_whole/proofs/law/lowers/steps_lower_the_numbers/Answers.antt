-- Each step by which a machine goes on.
use Rattle.map_measures.proofs.Given.PointsDescents.{descents_end}
use Rattle.owner_whole.proofs.Lowers.Machines.{steps_lower}
use Rattle.owner_whole.proofs.law.lowers.steps_lower_the_numbers.Goals as goal

pub returns : goal.returns
returns c d = record { lower = steps_lower _; ends = descents_end }
