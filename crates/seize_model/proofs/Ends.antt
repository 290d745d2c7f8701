-- Rows that run alone end: numbers that each of their steps lowers.
pub mod Batches
pub mod Rows
pub mod Settling
