-- What is left of a map that ends, and what others do beside it.
pub mod Ends
pub mod Going
