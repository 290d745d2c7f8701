-- What a call knows in a table that the root has left, and before, lasts while others step, in blocking mode.
pub mod Shares
pub mod Tables
pub mod Copiers
pub mod Disposals
pub mod Calls
pub mod Promised
