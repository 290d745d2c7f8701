-- The history of each list of acts keeps all that is promised of histories.
use Rattle.play_moves.proofs.Moves.Legal.{lists_keep_all}
use Rattle.play_moves.proofs.law.moves.lists_keep_all.Goals as goal

pub returns : goal.returns
returns c d = record { all = λ same by_hasher hash batch_size roots terms. lists_keep_all _ same by_hasher hash batch_size roots terms }
