-- What the one operation of a step of a call tells of the change that it made to its map.
pub mod Changed
pub mod Kept
pub mod Names
pub mod Quiet
pub mod Places
pub mod Promised
