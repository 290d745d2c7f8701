-- The points of a lookup.
pub mod LooksAsked
pub mod LookupsShort
pub mod Points
mod Links
mod Probes
pub mod Reads
