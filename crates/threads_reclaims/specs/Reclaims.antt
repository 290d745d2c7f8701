-- All that waits in a memory of maps is reclaimed, while one has it to himself.
pub mod Rule
pub mod Promises
