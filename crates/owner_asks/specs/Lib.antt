pub mod Asks
pub mod Steady
pub mod Pairs
pub mod Given
