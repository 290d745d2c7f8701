-- For the length of a table a call that one owner runs is refused only where the last table of its map cannot be followed.
pub mod Past
pub mod Spares
pub mod Copiers
pub mod Keys
pub mod Rooms
pub mod Sweeps
