pub mod Reaches
pub mod Views
pub mod Given
pub mod Samples
