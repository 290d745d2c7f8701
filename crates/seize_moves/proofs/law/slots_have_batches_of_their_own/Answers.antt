use Rattle.seize_moves.proofs.Waiting.Laws.{open_is_held, others_are_left_alone}
use Rattle.seize_moves.proofs.law.slots_have_batches_of_their_own.Goals as goal

pub returns : goal.returns
returns c = record { held = open_is_held; others = others_are_left_alone }
