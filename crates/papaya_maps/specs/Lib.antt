pub mod Sources
pub mod Calls
pub mod Sets
