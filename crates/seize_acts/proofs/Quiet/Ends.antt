-- The work on slots comes to its end.
pub mod Measures
pub mod Frees
pub mod Flushes
pub mod Rounds
pub mod All
pub mod Counted
