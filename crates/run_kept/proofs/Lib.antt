pub mod Kept
pub mod Sheds
pub mod Values
pub mod Models
pub mod Lists
pub mod Told
pub mod Given
