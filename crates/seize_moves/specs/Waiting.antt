-- The waiting sets by themselves: each change keeps every number, and reclaiming all leaves nothing that waits in a batch.
pub mod Changes
pub mod Following
pub mod Handed
pub mod Held
pub mod Laws
pub mod Lists
