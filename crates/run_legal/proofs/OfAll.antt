-- Events that reclaim all, from their beginning on.
pub mod Tells
pub mod Points
pub mod Roots
pub mod Turns
pub mod Stays
pub mod Steps
pub mod Pairs
pub mod Model
pub mod Sets
pub mod BySets
pub mod Ends
