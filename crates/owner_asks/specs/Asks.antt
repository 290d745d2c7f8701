-- Calls on a key that go by closures, and removals by whatever stands for a key, run to their ends by the one owner of a memory.
pub mod Asking
pub mod Closures
