-- The numbers that each step of a call, or of a reservation, lowers that goes on, whatever other callers have under way.
pub mod Below
pub mod Onward
pub mod Led
pub mod Kept
pub mod Stands
pub mod Making
pub mod Within
pub mod Copiers
pub mod Calls
pub mod Reserves
pub mod Laws
