-- The state of the collector with its lists as lists, its rule, and its moves.
pub mod Ghost
pub mod Grown
pub mod Held
pub mod Logs
pub mod Moves
pub mod Rule
pub mod Sums
pub mod Together
