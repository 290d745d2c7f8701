-- Whole calls on one key for one owner.
pub mod Begins
pub mod Counted
pub mod Own
pub mod Falls
pub mod Replies
pub mod Whole
pub mod Ends
pub mod AtEnds
