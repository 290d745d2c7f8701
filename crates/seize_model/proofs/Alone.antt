-- Whole calls over a memory that has one owner: each row runs to its end before the next one begins.
pub mod Histories
pub mod Laws
pub mod Spared
pub mod Whole
