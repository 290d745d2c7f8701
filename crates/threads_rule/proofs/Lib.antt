pub mod Views
pub mod Errands
mod Samples
