pub mod Remains
pub mod Lives
pub mod Given
