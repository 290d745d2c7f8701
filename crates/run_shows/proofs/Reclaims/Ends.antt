-- Reclaiming all comes to its end.
pub mod Falls
pub mod Roots
pub mod All
