-- What a step of a call leaves of its own block, in a table that the root has left.
pub mod Own
pub mod Never
pub mod Seeks
