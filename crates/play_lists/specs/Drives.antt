-- An executor does what it does by acts.
pub mod Executors
