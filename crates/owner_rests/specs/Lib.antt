pub mod Rests
pub mod ShowsPairs
pub mod Given
