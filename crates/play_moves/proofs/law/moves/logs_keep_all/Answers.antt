-- A log that is by acts is the grouping of a history that keeps all that is promised of histories.
use Rattle.play_moves.proofs.Moves.Logs.{logs_keep_all}
use Rattle.play_moves.proofs.law.moves.logs_keep_all.Goals as goal

pub returns : goal.returns
returns c d = record { all = λ same by_hasher. logs_keep_all _ same by_hasher }
