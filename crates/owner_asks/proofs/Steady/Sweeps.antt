-- Sweeps that remove pairs, while the map has one table at most.
mod Kept
mod Points
pub mod Runs
