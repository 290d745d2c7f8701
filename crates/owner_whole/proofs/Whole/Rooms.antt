-- Whole reservations and countings for one owner.
pub mod Account
pub mod Own
pub mod Rows
pub mod Whole
pub mod Countings
