-- The world stays good, whatever happens.
pub mod Begins
pub mod Bounded
mod Ended
pub mod Events
pub mod Good
pub mod Kept
mod Own
pub mod Rested
pub mod Start
mod Users
pub mod Values
