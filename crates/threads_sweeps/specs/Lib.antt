pub mod Closures
pub mod Heard
pub mod Onlookers
pub mod Swept
pub mod Given
