pub mod Kept
pub mod Sheds
pub mod Values
pub mod Models
pub mod Ends
pub mod Given
