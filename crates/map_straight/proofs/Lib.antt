pub mod Straight
pub mod Shown
pub mod Given
mod Samples
