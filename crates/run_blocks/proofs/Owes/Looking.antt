-- Calls that only look.
pub mod Leaves
pub mod Calls
pub mod Between
