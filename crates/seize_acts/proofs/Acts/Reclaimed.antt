-- Everything can be reclaimed: whole calls, the acts that they are, and what they come to.
pub mod Whole
pub mod Quiet
pub mod Settled
pub mod Flushed
pub mod All
