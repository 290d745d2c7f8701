-- An executor whose steps are written down as what they do to pairs, tables and blocks, so that a moment of a run shows it.
pub mod Shown
pub mod Calling
pub mod OnSlots
pub mod Makings
pub mod Goes
pub mod Roots
pub mod Ends
pub mod Reclaims
pub mod Back
pub mod Choosing
