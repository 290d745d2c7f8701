-- Rows one after another reclaim what the waiting sets say, and reclaiming all leaves nothing that waits.
mod Follows
pub mod Reclaims
pub mod Slots
pub mod Turns
