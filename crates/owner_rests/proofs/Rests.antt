-- Lemmas on the memory of a map for one owner, between its calls.
pub mod Because
pub mod Done
pub mod Keeps
pub mod Lasts
pub mod Looks
pub mod Makes
pub mod Removals
pub mod Reservations
pub mod Steady
pub mod Stores
pub mod Straight
