-- Samples: what the definitions and laws let pass, and plans that they refuse.
pub mod Plans
mod Maps
pub mod Makings
