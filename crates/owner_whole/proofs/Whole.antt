-- Whole calls for one owner of a map's memory, from the laws of many callers.
mod Joined
mod Fresh
pub mod Limits
pub mod Rows
pub mod Keys
pub mod Rooms
pub mod Sweeps
pub mod Contents
