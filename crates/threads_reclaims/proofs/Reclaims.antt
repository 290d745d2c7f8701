-- All that waits in a memory of maps is reclaimed, while one has it to himself.
pub mod Inside
pub mod Counted
pub mod More
pub mod Free
pub mod Begun
pub mod Taking
pub mod Seeks
pub mod Steps
pub mod Laws
