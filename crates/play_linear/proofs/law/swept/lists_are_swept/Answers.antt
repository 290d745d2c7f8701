-- By histories of lists of acts calls on whole maps do what they are for.
use Rattle.play_linear.proofs.Swept.Swept.{lists_are_swept}
use Rattle.play_linear.proofs.law.swept.lists_are_swept.Goals as goal

pub returns : goal.returns
returns c d = record { swept = λ same by_hasher hash batch_size roots terms. lists_are_swept _ same by_hasher hash batch_size roots terms }
