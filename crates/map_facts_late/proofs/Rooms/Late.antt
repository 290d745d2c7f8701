-- A reservation in a table that the root has left since it began, in blocking mode.
pub mod LatesOn
mod Tables
pub mod Copies
pub mod Points
