mod Closures
mod Gone
pub mod Onlookers
