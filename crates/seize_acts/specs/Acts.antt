-- The collector as a list of acts: one operation each, with its author, so that a list of them determines what is so after it.
pub mod Acts
pub mod Answers
pub mod Ends
pub mod Laws
pub mod Reclaimed
pub mod Refused
pub mod Stays
pub mod Waits
