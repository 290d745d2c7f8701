-- What each step of a call under way looks at: blocks that are there, and held for it.
mod Restricted
pub mod There
mod Held
pub mod Looks
pub mod Lookups
pub mod Makings
pub mod Sees
