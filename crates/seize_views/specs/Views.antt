-- The collector's rule for a memory that threads share: what each seat knows of the row that it has under way, of its slot and of a block, and what it has done last; and what
-- is promised of it.
pub mod Chains
pub mod Rows
pub mod Told
pub mod Promises
pub mod Begun
pub mod Watched
pub mod Notes
pub mod Stacking
pub mod Deferring
pub mod Content
pub mod Resting
pub mod Stays
pub mod Values
