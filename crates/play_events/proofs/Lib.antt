pub mod Folded
pub mod Events
pub mod Given
pub mod Samples
