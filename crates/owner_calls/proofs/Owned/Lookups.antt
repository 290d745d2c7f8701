-- Lookups that one owner runs.
pub mod Found
pub mod Tries
