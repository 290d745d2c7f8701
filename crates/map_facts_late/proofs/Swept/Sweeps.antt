-- The points of a sweep.
pub mod Tables
pub mod On
pub mod Moved
mod Reads
mod Removes
pub mod Copies
pub mod Points
pub mod Stands
pub mod Told
pub mod Promised
