pub mod Rows
pub mod Sights
mod Since
pub mod Asked
mod Once
pub mod Together
pub mod MapBegins
pub mod Claims
pub mod Given
mod Samples
