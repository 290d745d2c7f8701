-- By the lemmas on elements.
use Rattle.owner_asks.proofs.Pairs.Elements.{other_elements_stay, put_element_is_found}
use Rattle.owner_asks.proofs.law.pairs.changes_of_elements_are_found.Goals as goal

pub returns : goal.returns
returns g c = record { put = put_element_is_found _; others = other_elements_stay _ }
