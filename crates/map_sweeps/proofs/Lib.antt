pub mod Reserves
pub mod Given
