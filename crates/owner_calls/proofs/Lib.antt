pub mod Owned
pub mod Sifts
pub mod Holds
pub mod Given
mod Samples
