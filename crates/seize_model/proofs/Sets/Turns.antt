-- Rows one after another reclaim what the waiting sets say.
pub mod All
pub mod Append
pub mod Begins
pub mod Heads
mod Middle
mod Register
pub mod Weights
