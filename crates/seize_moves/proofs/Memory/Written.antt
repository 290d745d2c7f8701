-- What each write does to the state that the words show.
pub mod Append
pub mod Blocks
pub mod Close
pub mod Counts
pub mod Dooms
pub mod Ended
pub mod Heads
pub mod Holds
pub mod Joins
pub mod Marks
pub mod Own
pub mod Pushes
pub mod Puts
pub mod Retire
pub mod Takes
