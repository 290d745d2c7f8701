-- What waits behind a table is not reclaimed before the table is, and a table that is reclaimed was retired.
pub mod Waiting
pub mod Behind
pub mod Steps
pub mod Retired
pub mod LeftTables
pub mod Lying
pub mod Handed
pub mod Order
