-- What a call's key had in its map since the call began, and what a step changes of it.
pub mod Begun
pub mod Changes
pub mod Dues
pub mod Found
pub mod Had
pub mod Keys
pub mod Later
pub mod Logs
pub mod Meanings
pub mod Now
pub mod Steps
pub mod Which
pub mod Within
