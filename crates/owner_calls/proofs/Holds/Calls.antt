-- A call on one key, and its own block.
pub mod Goes
pub mod Held
pub mod Runs
pub mod Steps
