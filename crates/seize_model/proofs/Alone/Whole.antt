-- Whole calls, from their beginning to their end.
pub mod Begins
pub mod Ends
pub mod Enter
pub mod Midway
pub mod Register
pub mod Rest
pub mod Retake
pub mod Steps
