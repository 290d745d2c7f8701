pub mod Ends
pub mod Among
pub mod Beside
pub mod Given
pub mod Samples
