pub mod AllPlaces
pub mod Classes
pub mod Ends
pub mod Lists
pub mod Logarithms
pub mod Places
mod Samples
pub mod TableLens
mod Triangular
mod Tries
pub mod Given
