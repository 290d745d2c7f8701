-- The collector's state with its lists as lists: its rule, the moves that keep it, and what they do to the waiting sets.
pub mod Moves
pub mod Sets
pub mod State
