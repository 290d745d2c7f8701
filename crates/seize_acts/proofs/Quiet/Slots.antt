-- The work on slots of a caller that reclaims all.
pub mod Came
pub mod Facts
pub mod Stages
pub mod Rows
pub mod Steps
pub mod Flushes
