pub mod Given
pub mod Deciding
pub mod Computing
pub mod Updated
