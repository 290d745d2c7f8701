-- A row that runs alone follows the waiting sets, move by move.
pub mod Alone
pub mod Begins
mod Countdown
mod Deferred
mod Kept
mod Pushes
mod Retired
pub mod Steps
mod Tries
pub mod Work
