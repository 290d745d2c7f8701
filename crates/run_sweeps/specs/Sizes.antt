-- How many pairs a map has is what is counted of it, and each pair of a run is somewhere once.
pub mod Sizes
pub mod Once
