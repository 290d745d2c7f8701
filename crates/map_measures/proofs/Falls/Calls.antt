-- The call on one key.
pub mod Tries
pub mod Inner
pub mod TrySeen
pub mod TryPoints
pub mod FillPoints
pub mod Points
pub mod MachineFacts
pub mod Facts
pub mod LateFacts
pub mod Rows
pub mod Lengths
pub mod Promised
pub mod CopiersPromised
