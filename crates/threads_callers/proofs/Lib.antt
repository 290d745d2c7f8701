pub mod Rows
mod Newcomers
pub mod Passing
pub mod Known
pub mod Named
pub mod Answered
pub mod Given
