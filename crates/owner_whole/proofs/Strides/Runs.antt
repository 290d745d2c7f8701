-- Runs of machines: how many steps they take, and what they come to.
pub mod Bounds
pub mod Comes
pub mod Leading
pub mod Steps
