pub mod Waiting
pub mod Moves
pub mod Given
