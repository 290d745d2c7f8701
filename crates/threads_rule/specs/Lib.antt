pub mod Views
pub mod Errands
pub mod Given
