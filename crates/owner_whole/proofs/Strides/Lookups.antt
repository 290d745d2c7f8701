-- Lookups that one owner runs.
pub mod Ends
