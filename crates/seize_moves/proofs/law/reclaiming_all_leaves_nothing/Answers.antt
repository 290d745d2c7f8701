use Rattle.seize_moves.proofs.Waiting.Laws.{rounds_take_away, nothing_is_left}
use Rattle.seize_moves.proofs.law.reclaiming_all_leaves_nothing.Goals as goal

pub returns : goal.returns
returns c = record { rounds = rounds_take_away; empty = nothing_is_left }
