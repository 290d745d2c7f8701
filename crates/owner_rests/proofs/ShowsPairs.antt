-- Lemmas on what a map for one owner shows.
pub mod Walked
pub mod Ordered
pub mod Shows
pub mod Kept
pub mod Done
pub mod Stored
pub mod Cloned
