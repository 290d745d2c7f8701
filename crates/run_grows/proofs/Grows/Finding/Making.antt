-- Lemmas on what a step of a call makes by its copier.
pub mod Copiers
pub mod Calls
pub mod Rooms
pub mod Sweeps
pub mod Machines
pub mod Lengths
pub mod Such
pub mod Behind
pub mod Steps
pub mod Between
pub mod Unpromoted
pub mod OffRoot
pub mod Ahead
