-- Lemmas on calls on a key that ask, as one owner runs them to their ends.
pub mod Asks
