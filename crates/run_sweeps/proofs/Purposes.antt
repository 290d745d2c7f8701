-- What calls on whole maps are for, in the words of a run.
mod Lists
mod Within
mod Present
pub mod Shown
mod Alike
mod KeysOn
mod Onward
mod KeysSteps
mod KeysCarried
mod Pairs
mod KeysMoved
mod Done
mod Still
mod Over
mod Rooms
pub mod Tableless
mod For
mod Counts
pub mod Steps
mod Named
pub mod Kept
pub mod Walks
pub mod Between
pub mod Told
pub mod Rows
pub mod Swept
pub mod Shows
pub mod Stored
pub mod ShowsAll
pub mod WalkWords
pub mod FindsRoom
pub mod Nothing
pub mod Elsewhere
pub mod ShardsRead
