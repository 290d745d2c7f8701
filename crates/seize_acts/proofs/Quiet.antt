-- A caller reclaims all that waits, after whatever others did before it: each of its steps on slots, and where they end.
pub mod Slots
pub mod Promised
pub mod Ends
