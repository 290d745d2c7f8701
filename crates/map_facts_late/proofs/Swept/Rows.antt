-- A sweep and the rows of the collector.
pub mod Rests
