-- What the steps of rows leave of a memory as it was.
pub mod Fewer
pub mod Links
pub mod Operations
pub mod Rows
pub mod Steps
pub mod Users
pub mod Values
