-- What callers look at, after a step of one of them.
pub mod Closed
pub mod Parts
pub mod Sources
pub mod Wider
pub mod Seen
