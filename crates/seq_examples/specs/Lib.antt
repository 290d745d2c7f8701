-- What the programs say of their maps.
pub mod Counts
pub mod Fibonacci
pub mod Numbers
pub mod Sessions
