-- What the calls of a run were told, and what they store and hand over, at a moment that the scene refines.
pub mod Asked
pub mod Hands
pub mod Rows
pub mod Shows
pub mod Steps
pub mod Calling
pub mod Beginning
pub mod Others
