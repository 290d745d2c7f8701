pub mod Given
pub mod OneSet
pub mod Swept
