pub mod Presence
pub mod Crews
