pub mod Histories
pub mod Promises
pub mod Given
mod Samples
