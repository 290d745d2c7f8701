-- The memory of a map for one owner, between its calls: each change refreshes the owner's section and runs the map's machine to its end.
pub mod Asking
pub mod Calls
pub mod Held
pub mod Lasts
pub mod Refreshed
pub mod Storing
