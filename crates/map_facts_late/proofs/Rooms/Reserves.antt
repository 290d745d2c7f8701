-- The points of a reservation in the table of the root.
pub mod Moved
pub mod On
pub mod Mays
mod Tables
mod WholeCopies
pub mod WholeBegins
pub mod Copies
pub mod Points
pub mod Promised
