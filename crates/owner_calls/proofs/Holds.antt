-- Lemmas on what the memory of one owner's map has.
pub mod Calls
pub mod Changes
pub mod Lists
pub mod Runs
mod Stood
pub mod Sweeps
