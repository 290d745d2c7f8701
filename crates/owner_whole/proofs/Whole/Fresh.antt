-- Knowledge of the root's table excludes that of a table that the root has left.
pub mod Calls
pub mod Rooms
pub mod Sweeps
