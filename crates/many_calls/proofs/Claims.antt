-- What steps of calls do to the claims of tables, in blocking mode.
pub mod Charts
pub mod Fit
pub mod Knows
pub mod Writes
pub mod Copiers
pub mod Calls
pub mod Grows
pub mod Sees
pub mod Within
pub mod Promised
pub mod Rooms
pub mod Sweeps
