-- What is so of lists of pairs and of elements, given on to who proves things of maps and sets.
pub use Rattle.owner_rests.proofs.Given.{balanced_first, balanced_more, balanced_still, kept_balances, lives_hold}
pub use Rattle.owner_asks.proofs.Pairs.Elements.{element_in_any_order, elements_apart_in_any_order, left_elements_in_any_order, other_elements_stay, put_element_is_found, there_as}
pub use Rattle.owner_asks.proofs.Pairs.Equals.{no_values}
pub use Rattle.owner_asks.proofs.Pairs.Laws.{apart_in_any_order, found_in_any_order, last_is_found, left_in_any_order, others_stay, put_is_found}
pub use Rattle.owner_asks.proofs.Pairs.Orders.{kept_in_any_order, left_and, lifts}
pub use Rattle.owner_asks.proofs.Pairs.Puts.{put_is_last}
pub use Rattle.owner_rests.proofs.ShowsPairs.Walked as SeqShowsWalked
