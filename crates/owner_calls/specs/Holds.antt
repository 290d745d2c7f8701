-- What the memory of one owner's map has beside the pairs of the map, and what becomes of it.
pub mod Balances
pub mod Calls
pub mod Came
pub mod Held
pub mod Lives
pub mod Promises
pub mod Sweeps
