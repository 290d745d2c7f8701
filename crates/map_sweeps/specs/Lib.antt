pub mod Sweeps
pub mod Reserves
pub mod Given
