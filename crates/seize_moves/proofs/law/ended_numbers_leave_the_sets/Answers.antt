use Rattle.seize_moves.proofs.Waiting.Laws.{ends_leave}
use Rattle.seize_moves.proofs.law.ended_numbers_leave_the_sets.Goals as goal

pub returns : goal.returns
returns c = record { ends = ends_leave }
