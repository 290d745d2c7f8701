-- What a step by which all is reclaimed keeps, of what is held alone: no executor is needed for it.
pub mod Finds
pub mod Handed
pub mod Kept
pub mod Lies
pub mod Numbered
pub mod Order
pub mod Rows
pub mod Steps
pub mod Waits
