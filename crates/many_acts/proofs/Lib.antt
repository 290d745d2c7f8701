pub mod Looks
pub mod Acts
pub mod Carries
pub mod Links
pub mod Lefts
pub mod Given
mod Samples
