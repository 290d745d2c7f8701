-- A map over a memory that has one owner: how it begins, what reservations keep to, and how much is left of its end.
pub mod Begins
pub mod Reserves
pub mod Rests
pub mod Ends
pub mod NextTables
pub mod Laws
