-- How the moment of a run follows the other steps: rows between calls, walks that go on or are given up, makings and ends of maps.
pub mod After
pub mod Gone
pub mod Rows
pub mod Walks
pub mod Endings
pub mod Makings
pub mod Counters
pub mod Elsewhere
pub mod Gives
