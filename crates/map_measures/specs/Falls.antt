-- The numbers that each step of a call, or of a reservation, lowers that goes on, whatever other callers have under way.
pub mod Room
pub mod Copies
pub mod CopiesBlocking
pub mod Calls
pub mod Falls
pub mod FallsWithin
pub mod Reserves
pub mod FallsReserves
