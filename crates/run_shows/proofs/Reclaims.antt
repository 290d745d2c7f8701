-- A caller reclaims all, with any number of maps on the collector.
pub mod Behind
pub mod Left
pub mod Promised
pub mod Ends
