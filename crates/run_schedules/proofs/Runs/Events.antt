-- Guards and their slots.
pub mod Seats
