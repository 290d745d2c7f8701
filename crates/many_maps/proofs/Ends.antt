-- A map that ends.
pub mod CountedBlocks
pub mod Memory
pub mod OrdersOn
pub mod OrdersPairs
pub mod OrdersOnce
pub mod Worlds
pub mod Frames
pub mod SinceOn
pub mod Since
pub mod Known
pub mod Points
pub mod Said
pub mod Pairs
mod Carries
mod Deferred
mod Tables
mod Roots
pub mod Lasts
