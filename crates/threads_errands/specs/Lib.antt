pub mod Ahead
pub mod Puts
pub mod Takes
pub mod Tries
pub mod Given
