-- As a map ends, entry by entry, what it takes is next, and nothing of it is left in the end.
pub mod GoingOn
pub mod InOrder
