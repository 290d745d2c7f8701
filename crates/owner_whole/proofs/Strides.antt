-- Steps of a call that are taken at once, and where they end.
pub mod Lookups
pub mod Runs
