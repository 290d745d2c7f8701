pub mod Placed
pub mod Visiting
