-- When a call may wait: while others copy, and for nothing else.
pub mod Waits
pub mod Promises
pub mod Others
