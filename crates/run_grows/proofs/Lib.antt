pub mod Grows
pub mod Sources
pub mod Waits
pub mod Given
