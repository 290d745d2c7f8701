pub mod Builders
pub mod Cloned
pub mod Given
