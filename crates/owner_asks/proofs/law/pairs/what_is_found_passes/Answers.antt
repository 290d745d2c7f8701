-- By the lemma on lists.
use Rattle.owner_asks.proofs.Pairs.Laws.{found_passes}
use Rattle.owner_asks.proofs.law.pairs.what_is_found_passes.Goals as goal

pub returns : goal.returns
returns g c = found_passes _ _
