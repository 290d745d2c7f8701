-- By the lemma on lists.
use Rattle.papaya_seq.proofs.ReadBack.{one_array_one_set}
use Rattle.papaya_seq.proofs.read_back.sets_are_read_back.Goals as goal

pub returns : goal.returns
returns g c = one_array_one_set _
