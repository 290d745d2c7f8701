-- The making of a table.
pub mod MakingBounds
pub mod MakingOn
