-- A row that runs alone ends, and one among others ends or waits.
pub mod Among
pub mod Defer
pub mod Leaving
pub mod Lone
pub mod Register
pub mod Run
