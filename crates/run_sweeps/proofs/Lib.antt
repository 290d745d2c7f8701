pub mod Purposes
pub mod Sizes
pub mod Needs
pub mod Quiet
pub mod OwnPairs
pub mod Given
mod Samples
