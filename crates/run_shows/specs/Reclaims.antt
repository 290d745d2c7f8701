-- A caller reclaims all, with any number of maps on the collector.
pub mod Slots
pub mod Deferred
pub mod Reclaims
pub mod Left
pub mod Ends
