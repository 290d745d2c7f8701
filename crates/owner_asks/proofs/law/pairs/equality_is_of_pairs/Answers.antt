-- By the lemmas on lists.
use Rattle.owner_asks.proofs.Pairs.Laws.{agree_at_each_key, agree_in_any_order}
use Rattle.owner_asks.proofs.law.pairs.equality_is_of_pairs.Goals as goal

pub returns : goal.returns
returns g c = record { each = agree_at_each_key _ _; in_any_order = agree_in_any_order _ _ }
