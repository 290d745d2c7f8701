-- The rule of a memory that threads have shared, while one seat alone acts, and reclaims all that waits; and what is promised of it.
pub mod Looks
pub mod Roots
pub mod Moved
pub mod Registering
pub mod Steps
pub mod Ends
pub mod One
pub mod Emptied
