-- What memories are made of: places side by side, and words with the right to give their memory back.
pub mod Somewhere
pub mod Pieces
