-- Each entry of the history of each list of acts moves on.
use Rattle.play_moves.proofs.Moves.Moved.{lists_move_on}
use Rattle.play_moves.proofs.law.moves.lists_move_on.Goals as goal

pub returns : goal.returns
returns c d = record { moves = λ same by_hasher hash batch_size roots terms. lists_move_on _ same by_hasher hash batch_size roots terms }
