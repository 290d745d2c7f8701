pub mod ByKey
pub mod Falls
pub mod Passes
pub mod Waits
pub mod Waiters
pub mod Given
pub mod Samples
