-- What a walk, a clearing and a retaining know, what their steps do, and what they come to.
pub mod Covers
pub mod Lasts
pub mod Laws
pub mod Rows
pub mod Sweeps
