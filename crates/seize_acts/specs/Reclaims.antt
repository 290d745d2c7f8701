-- Everything that waits is reclaimed, as a whole call over a memory that has one owner.
pub mod AllReclaimed
pub mod Laws
pub mod Roots
