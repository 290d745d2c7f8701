-- The collector's rule for a memory that threads share: what each seat knows of the row that it has under way, of its slot and of a block, and what it has done last; and what
-- is promised of it.
pub mod Aside
pub mod Lists
pub mod Reclaims
pub mod Came
pub mod Chains
mod Links
pub mod Found
pub mod Moved
pub mod Steps
pub mod InWorld
pub mod Operations
pub mod Begins
pub mod Ends
pub mod Turning
pub mod Lifted
pub mod Beginnings
pub mod Registers
pub mod Looks
pub mod Makes
pub mod Settling
pub mod GoesOn
pub mod Users
pub mod Blocks
pub mod Written
mod Linking
pub mod Roots
pub mod Handing
pub mod Handed
mod Leaned
mod Watched
pub mod Notes
pub mod Guarding
pub mod Passing
pub mod Stacking
pub mod Walking
pub mod Deferring
pub mod Contents
pub mod Values
