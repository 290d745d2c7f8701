pub mod Renews
pub mod Empties
