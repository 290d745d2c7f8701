-- A lookup in a table that the root has left.
pub mod Asked
pub mod Frozen
pub mod Points
mod Probes
