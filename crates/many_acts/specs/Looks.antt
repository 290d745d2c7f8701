-- What each step of a call under way looks at: blocks that are there, and held for it.
pub mod Blocks
pub mod Looks
pub mod There
pub mod Sees
