-- What a call's key had in its map since the call began, and what a step changes of it.
pub mod Changes
pub mod Had
pub mod Histories
pub mod Kept
