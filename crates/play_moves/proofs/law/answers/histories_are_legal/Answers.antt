-- The history of what threads have done is legal.
use Rattle.play_moves.proofs.OneHistory.Legal.{histories_are_legal, histories_keep_all}
use Rattle.play_moves.proofs.law.answers.histories_are_legal.Goals as goal

pub returns : goal.returns
returns c d = record { legal = λ same hash. histories_are_legal _ same hash; all = λ same hash terms. histories_keep_all _ same hash terms }
