-- A call asks about no pair twice.
pub mod Stays
mod News
pub mod Steps
pub mod LateSteps
pub mod Replies
