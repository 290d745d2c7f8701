pub mod Purposes
pub mod Sizes
pub mod Needs
pub mod Says
pub mod OwnPairs
pub mod Given
