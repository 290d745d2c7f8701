-- How much is left of the end of a map.
pub mod BlocksFew
pub mod Lower
