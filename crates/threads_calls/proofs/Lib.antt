pub mod Sessions
pub mod Keys
pub mod Whole
mod Asks
pub mod Given
