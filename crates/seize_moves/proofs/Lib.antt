pub mod Waiting
pub mod Moves
pub mod Memory
mod Samples
pub mod Given
