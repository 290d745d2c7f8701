pub mod Linear
pub mod Swept
pub mod Protects
pub mod Endings
pub mod Given
