-- The points of a copier, in blocking mode.
pub mod Points
mod Claims
mod Counts
mod Ends
mod Lost
mod Marks
mod Promotes
mod Reads
mod Remakes
mod Replaces
pub mod Placing
pub mod Sources
pub mod Successors
pub mod Targets
mod Tries
