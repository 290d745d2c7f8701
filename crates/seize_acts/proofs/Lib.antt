pub mod Acts
pub mod Bounds
pub mod Reclaims
pub mod Quiet
pub mod Given
pub mod Samples
