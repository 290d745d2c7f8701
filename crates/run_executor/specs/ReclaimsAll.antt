-- Reclaims everything that waits in the memory of an executor, one step at a time, while nobody has anything under way.
pub mod Reclaiming
