-- What a call on one key, a reservation, a sweep, and the making and the copying of a table, may be refused for.
pub mod Asks
pub mod Bound
pub mod Calling
pub mod Copying
pub mod Making
pub mod Reserving
pub mod Sweeping
