-- The collector as a list of acts: one operation each, with its author, so that a list of them determines what is so after it.
pub mod Among
pub mod Answers
pub mod Begun
pub mod Ends
pub mod Fine
pub mod Lost
pub mod Reclaimed
pub mod Refused
pub mod Slots
pub mod Stays
pub mod Steps
pub mod Waits
