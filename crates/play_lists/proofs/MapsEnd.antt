-- What is left of a map that ends, and what others do beside it.
pub mod Alike
pub mod Begins
pub mod Calls
pub mod Going
pub mod Left
pub mod Noted
pub mod Places
pub mod Spares
