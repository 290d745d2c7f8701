-- By the lemma on lists.
use Rattle.papaya_seq.proofs.ReadBack.{one_object_one_map}
use Rattle.papaya_seq.proofs.read_back.maps_are_read_back.Goals as goal

pub returns : goal.returns
returns g c = one_object_one_map _ _
