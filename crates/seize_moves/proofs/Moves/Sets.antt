-- The waiting sets that a state shows, and what moves do to them.
pub mod Ascending
pub mod Countdown
pub mod Counters
pub mod ListTaken
pub mod Moved
pub mod Quiescent
pub mod Scan
pub mod Shown
pub mod Tries
pub mod Unmoved
pub mod Working
