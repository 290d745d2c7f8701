-- Lemmas on what a call has met at the tries of its table.
pub mod More
pub mod Walk
pub mod Off
pub mod Facts
pub mod Stays
pub mod Shows
pub mod Steps
pub mod Others
pub mod Log
