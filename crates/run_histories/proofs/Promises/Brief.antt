-- How many words lookups read.
pub mod Sums
pub mod Going
pub mod Shown
pub mod Stays
pub mod Ends
pub mod Own
pub mod Maps
pub mod Steps
pub mod Meanwhile
