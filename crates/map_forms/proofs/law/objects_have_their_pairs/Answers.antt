use Rattle.map_forms.proofs.PairByPair.{objects_have_their_pairs, objects_have_no_order}
use Rattle.map_forms.proofs.law.objects_have_their_pairs.Goals as goal

pub returns : goal.returns
returns g c = record { pairs = objects_have_their_pairs _ _; order = objects_have_no_order _ _ }
