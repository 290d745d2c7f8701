-- The points of a copier whose source the root has left.
pub mod LateBegins
pub mod LateWent
pub mod Points
mod Claims
mod Counts
mod Ends
mod LateDone
mod Marks
mod Reads
mod Remakes
mod Replaces
mod Tries
