-- What an entry of a history finds and moves, by what it does.
pub mod Finds
pub mod Moves
pub mod Own
pub mod Parts
pub mod Places
