-- Runs worked by hand, and wrong ones that no run is.
pub mod Words
pub mod Stored
pub mod Filled
pub mod Resized
mod Ends
mod Interleaved
mod Beside
mod Asking
mod Lives
mod Stopped
mod Sweeps
mod Refusals
mod Blocking
mod Crowded
mod Maps
