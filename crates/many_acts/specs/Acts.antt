-- What callers do on any number of maps of one collector, as lists of plain data.
pub mod Acts
pub mod Leads
pub mod Doings
pub mod Lists
pub mod Counts
pub mod Reclaiming
pub mod Courses
pub mod AsSteps
