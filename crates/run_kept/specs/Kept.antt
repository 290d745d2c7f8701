-- What every step keeps: the invariants of a moment of a run, with what is noted, and of the scene that it shows.
pub mod Ends
pub mod Kept
pub mod Steps
