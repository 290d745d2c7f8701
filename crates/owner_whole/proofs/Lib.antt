pub mod Whole
pub mod Lowers
pub mod Strides
pub mod Given
mod Samples
