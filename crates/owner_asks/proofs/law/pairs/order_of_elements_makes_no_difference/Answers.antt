-- By the lemmas on elements.
use Rattle.owner_asks.proofs.Pairs.Elements.{element_in_any_order, elements_apart_in_any_order, left_elements_in_any_order}
use Rattle.owner_asks.proofs.law.pairs.order_of_elements_makes_no_difference.Goals as goal

pub returns : goal.returns
returns g c = record { found = element_in_any_order _; left = left_elements_in_any_order _; apart = elements_apart_in_any_order _ }
