-- A settling row has less left with each step, unless it waits.
pub mod Alone
pub mod Among
mod Deferred
pub mod Measure
pub mod Most
mod Moves
mod Points
mod Steps
