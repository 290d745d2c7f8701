-- Callers, as they are kept and as they are shown.
pub mod Comes
pub mod Found
pub mod Keeps
pub mod Kept
pub mod Newest
pub mod Seats
pub mod Trims
