-- The map of one owner, and its pairs.
pub mod Answered
pub mod Blocks
pub mod Calls
pub mod ComesBack
pub mod Firsts
pub mod HandsBack
pub mod Keys
pub mod Lasts
pub mod Classes
pub mod Lookups
pub mod Making
pub mod Places
pub mod Refreshes
pub mod Rests
pub mod Rooms
pub mod Standing
pub mod TooMany
