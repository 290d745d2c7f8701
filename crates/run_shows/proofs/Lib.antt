pub mod Reclaims
pub mod Scenes
pub mod Follows
pub mod Others
pub mod Given
mod Samples
