-- By histories of lists of acts maps end in order.
use Rattle.play_linear.proofs.Endings.InOrder.{maps_end_in_order}
use Rattle.play_linear.proofs.law.endings.maps_end_in_order.Goals as goal

pub returns : goal.returns
returns c d = record { order = λ same by_hasher hash batch_size roots. maps_end_in_order _ same by_hasher hash batch_size roots }
