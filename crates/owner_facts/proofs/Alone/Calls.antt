-- Whole calls: what their steps change, and what of the map can be reached.
pub mod LastsOn
pub mod Changes
pub mod Rests
