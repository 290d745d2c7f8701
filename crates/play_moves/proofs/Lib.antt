pub mod Moves
pub mod OneHistory
pub mod EachMoves
mod Samples
