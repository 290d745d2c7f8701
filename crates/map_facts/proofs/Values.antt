-- What a step of a call leaves of the values of blocks, and of its own block.
pub mod Kept
pub mod Left
pub mod Making
pub mod Copying
pub mod Copiers
pub mod Sought
pub mod Steps
pub mod Own
