-- The program points of a settling row: what the row knows there, and which move its step is.
pub mod Aside
mod Counts
pub mod Deferred
pub mod Down
pub mod Entries
mod Hold
pub mod Known
pub mod KnownLasts
mod Lists
pub mod Lost
mod Mark
pub mod May
mod NothingLeft
mod Onwards
pub mod Passed
mod Push
pub mod Retire
mod Scan
pub mod Settle
pub mod Short
pub mod Stepped
mod Sum
mod Take
pub mod Told
pub mod Try
mod Writes
