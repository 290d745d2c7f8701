pub mod Runs
pub mod Schedules
pub mod Deeds
pub mod Given
pub mod Samples
