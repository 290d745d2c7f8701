-- Lemmas on what one owner runs to its end.
pub mod Inner
pub mod Lookups
pub mod Owned
pub mod Passing
pub mod Straight
pub mod Walks
