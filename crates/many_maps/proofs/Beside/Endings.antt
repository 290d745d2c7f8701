-- What steps of others leave of a map that ends: of its blocks, its root, and what waits.
pub mod Begins
pub mod Spares
pub mod Calls
pub mod Rows
pub mod Makings
