-- Reclaiming all: its work on slots is a list of whole calls, and leaves nothing that waits.
pub mod Calls
pub mod Ends
pub mod NeverTaken
pub mod Rounds
mod Rows
pub mod Sets
pub mod Stages
