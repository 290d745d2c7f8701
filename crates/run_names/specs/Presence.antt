-- Who is there in a run: registrations and guards, found by their names and counted by their slots.
pub mod Counted
pub mod Counts
pub mod Crowd
pub mod Places
