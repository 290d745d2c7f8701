-- What a sweep comes to.
pub mod Places
pub mod Lasts
pub mod Begins
mod Passes
pub mod On
pub mod Kept
pub mod Told
pub mod Steps
pub mod Promised
pub mod Shows
