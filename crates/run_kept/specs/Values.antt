-- The values that callers keep, to tell them back.
pub mod Values
