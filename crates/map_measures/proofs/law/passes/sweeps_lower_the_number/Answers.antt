-- Each step of a sweep, what it is told, and the rows within it.
use Rattle.many_calls.proofs.Given.PointsDescents.{descents_end}
use Rattle.map_measures.proofs.Passes.Laws.{sweeps_fall, telling_falls, sweep_rows_fall}
use Rattle.map_measures.proofs.law.passes.sweeps_lower_the_number.Goals as goal
use Rattle.map_measures.proofs.Passes.Promised.{sweep_numbers_are_as_many}

pub returns : goal.returns
returns c d = record { steps = sweeps_fall _; told = telling_falls _; rows = sweep_rows_fall _; many = sweep_numbers_are_as_many; ends = descents_end }
