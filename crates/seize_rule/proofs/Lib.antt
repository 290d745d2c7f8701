pub mod Points
pub mod Rows
mod Samples
pub mod Words
pub mod World
pub mod Given
