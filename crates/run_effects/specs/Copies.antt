-- Copies of events and of what they came to, and whether two of them are the same.
pub mod Copies
pub mod Same
