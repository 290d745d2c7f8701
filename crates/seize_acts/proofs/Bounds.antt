-- How many steps a row takes until it has settled, whatever the others do meanwhile.
pub mod Bounds
pub mod Settles
