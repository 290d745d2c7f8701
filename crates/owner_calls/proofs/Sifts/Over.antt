-- The pairs of one owner's map, over all of which it goes.
pub mod Clears
pub mod Questions
pub mod Refusals
pub mod Retains
pub mod Siftings
pub mod Sweeps
