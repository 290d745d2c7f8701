pub mod Reaches
pub mod Views
