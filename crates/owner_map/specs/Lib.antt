pub mod Lent
pub mod Given
pub mod Answers
pub mod Computes
