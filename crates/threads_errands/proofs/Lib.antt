mod Turning
mod Behind
mod Standing
mod Puts
mod Takes
mod Helps
mod Tries
pub mod Given
