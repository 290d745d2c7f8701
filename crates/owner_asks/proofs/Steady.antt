-- Lemmas on changes that are never refused.
pub mod Calls
mod Ends
pub mod Refreshes
pub mod Sweeps
