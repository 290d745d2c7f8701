-- Each move keeps the rule, and leaves to the other rows what they know.
pub mod AtZero
pub mod Blocks
pub mod Ended
pub mod Pushes
pub mod Slots
pub mod Takes
pub mod Tries
