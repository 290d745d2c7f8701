-- Rows that run alone end: numbers that each of their steps lowers.
pub mod Holders
