-- Walks over the pairs of a map, and the removal of all or some of them.
pub mod Sweep
pub mod SweepPoints
