-- Which words a step leaves as they are.
pub mod Calls
pub mod Helpers
pub mod Steps
pub mod Shards
