-- By histories of lists of acts nothing is reclaimed that left its map in a section that goes on.
use Rattle.play_linear.proofs.Protects.Protected.{lists_are_protected}
use Rattle.play_linear.proofs.law.protects.lists_are_protected.Goals as goal

pub returns : goal.returns
returns c d = record { protected = λ same by_hasher hash batch_size roots. lists_are_protected _ same by_hasher hash batch_size roots }
