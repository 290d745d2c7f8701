-- By the lemmas on lists.
use Rattle.owner_asks.proofs.Pairs.Laws.{found_in_any_order, left_in_any_order, apart_in_any_order}
use Rattle.owner_asks.proofs.law.pairs.order_makes_no_difference.Goals as goal

pub returns : goal.returns
returns g c = record { found = found_in_any_order _ _; left = left_in_any_order _ _; apart = apart_in_any_order _ _ }
