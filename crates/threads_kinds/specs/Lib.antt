pub mod CallKinds
pub mod Makings
