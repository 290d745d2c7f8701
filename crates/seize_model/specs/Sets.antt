-- Rows one after another reclaim what the waiting sets say, and reclaiming all leaves nothing that waits.
pub mod Reclaims
