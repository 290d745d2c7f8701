-- The numbers that each step of a walk, a clearing or a retaining lowers that goes on, whatever other callers have under way.
pub mod Counters
pub mod Places
pub mod Over
pub mod Within
pub mod Points
pub mod Telling
pub mod Rows
pub mod Promised
pub mod Laws
