-- The values that callers keep, to tell them back.
pub mod KeyEnds
pub mod Inserts
pub mod Values
