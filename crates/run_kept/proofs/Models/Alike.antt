-- The same waiting sets under other numbers: the same changes make the same of them.
pub mod Again
pub mod Changed
pub mod Lists
