-- Which call another one waits for where all pairs are copied at once.
pub mod Blocking
