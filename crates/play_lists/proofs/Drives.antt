-- An executor does what it does by acts.
mod Begins
pub mod Told
mod Wherever
mod May
pub mod Executors
