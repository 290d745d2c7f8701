-- What is so of maps, sets and what they are read of, given on to who proves things of them: the laws, as lemmas, and what a walk has shown.
pub use Rattle.owner_map.proofs.Given.{apart_in_any_order, found_in_any_order, last_is_found, left_in_any_order, others_stay, put_is_found}
pub use Rattle.owner_map.proofs.Given.{element_in_any_order, elements_apart_in_any_order, left_elements_in_any_order, other_elements_stay, put_element_is_found}
pub use Rattle.papaya_seq.proofs.ReadBack.{one_array_one_set, one_object_one_map}
