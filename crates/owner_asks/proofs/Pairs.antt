-- Lemmas on lists of pairs.
pub mod Elements
pub mod Equals
pub mod Laws
pub mod Orders
pub mod Puts
