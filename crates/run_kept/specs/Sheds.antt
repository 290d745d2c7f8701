-- What the reclaiming of all, and the end of a map, leave of what a moment shows.
pub mod Ended
pub mod Waits
