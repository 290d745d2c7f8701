-- Calls on one key of a map whose copying nobody else has a part in: they never wait; and what they count, and how many pairs they meet.
mod Asks
pub mod Lone
pub mod Spared
pub mod Shards
pub mod Handed
pub mod Values
pub mod Calls
