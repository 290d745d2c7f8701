-- Lemmas on pairs that calls have in hand: where they lie, until they are handed over.
pub mod Taken
pub mod New
pub mod Owes
pub mod Due
