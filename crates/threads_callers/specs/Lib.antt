pub mod Answers
pub mod Standing
pub mod Passing
pub mod Given
