-- Each step of a call, and of the rows within it.
use Rattle.map_measures.proofs.Falls.Laws.{calls_fall, late_calls_fall, rows_fall}
use Rattle.many_calls.proofs.Given.PointsDescents.{descents_end}
use Rattle.map_measures.proofs.law.falls.steps_lower_the_number.Goals as goal
use Rattle.map_measures.proofs.Falls.Calls.Lengths.{numbers_are_as_many}

pub returns : goal.returns
returns c d = record { calls = calls_fall _; late = late_calls_fall _; rows = rows_fall _; many = numbers_are_as_many; ends = descents_end }
