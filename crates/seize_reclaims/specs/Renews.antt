-- The rule of a memory that threads have shared, while one seat alone acts, and reclaims all that waits; and what is promised of it.
pub mod Rule
pub mod Promises
pub mod One
pub mod Emptied
