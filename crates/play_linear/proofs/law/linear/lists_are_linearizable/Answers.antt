-- Histories of lists of acts are linearizable.
use Rattle.play_linear.proofs.Linear.Linear.{lists_are_linearizable}
use Rattle.play_linear.proofs.law.linear.lists_are_linearizable.Goals as goal

pub returns : goal.returns
returns c d = record { linearizable = λ same by_hasher hash batch_size roots. lists_are_linearizable _ same by_hasher hash batch_size roots }
