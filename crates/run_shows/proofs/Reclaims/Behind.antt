-- What is behind roots, and how it is reclaimed.
pub mod Kept
pub mod Deferred
pub mod Maps
pub mod Lists
pub mod Points
pub mod Changes
