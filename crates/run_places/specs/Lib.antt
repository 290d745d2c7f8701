pub mod Hands
pub mod Spots
pub mod Moments
pub mod Changes
pub mod Given
