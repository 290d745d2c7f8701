-- What callers do on any number of maps of one collector, as lists of plain data.
pub mod Tests
pub mod Calls
mod Makings
pub mod Rows
pub mod Left
pub mod Chosen
pub mod Lists
mod Once
pub mod Further
mod Sums
pub mod Counts
mod RowSteps
pub mod Courses
pub mod Agree
pub mod Reclaiming
pub mod AsSteps
