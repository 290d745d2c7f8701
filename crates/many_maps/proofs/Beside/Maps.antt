-- Several maps on one collector.
pub mod Stays
pub mod Left
pub mod OtherSteps
pub mod OtherBegins
pub mod All
pub mod Comes
pub mod Steps
pub mod Rows
