-- What the map had, and what a move leaves to others.
pub mod History
pub mod Leaving
mod LeavingNames
pub mod LeavingOn
mod LeavingPlaces
mod Claimed
