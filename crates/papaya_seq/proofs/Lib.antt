-- Lemmas on sets for one owner.
mod Members
mod ReadBack
mod Sets
mod Stored
pub mod Given
