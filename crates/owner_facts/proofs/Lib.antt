pub mod Alone
pub mod Maps
pub mod Descends
pub mod Given
mod Samples
