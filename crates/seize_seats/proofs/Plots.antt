-- What memories are made of: places side by side, and words with the right to give their memory back.
pub mod Fields
pub mod Placing
pub mod Room
pub mod Spots
pub mod Emptied
pub mod Buckets
pub mod Somewhere
