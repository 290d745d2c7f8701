-- The waiting sets by themselves: each change keeps every number, and reclaiming all leaves nothing that waits in a batch.
pub mod Behind
pub mod Bound
pub mod Counts
mod Emptied
mod Ended
pub mod Flushes
pub mod Handed
mod Held
pub mod Kept
pub mod Laws
pub mod Quiet
pub mod Retired
pub mod Tidy
pub mod Work
