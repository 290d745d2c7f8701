-- By the lemma on lists.
use Rattle.owner_asks.proofs.Pairs.Laws.{last_is_found}
use Rattle.owner_asks.proofs.law.pairs.the_last_is_found.Goals as goal

pub returns : goal.returns
returns g c = last_is_found _ _
