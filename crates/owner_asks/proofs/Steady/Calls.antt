-- Calls on a key that only remove, while the map has one table at most.
mod Kept
mod Points
pub mod Runs
