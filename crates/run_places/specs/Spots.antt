-- Where the pairs of maps lie at a moment of a run, and which blocks are not reclaimed yet.
pub mod Spots
pub mod Unreclaimed
pub mod Deferred
pub mod Placed
pub mod Steps
pub mod OnSlots
pub mod Makings
