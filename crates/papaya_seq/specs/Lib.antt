pub mod Sets
pub mod Stored
pub mod Pairs
pub mod Each
pub mod Json
pub mod ReadBack
