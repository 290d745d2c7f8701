pub mod Grows
pub mod Sources
pub mod Given
