pub mod Sets
pub mod Ends
pub mod Alone
pub mod Given
mod Samples
