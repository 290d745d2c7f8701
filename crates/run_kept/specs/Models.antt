-- What is reclaimed is what the waiting-set model reclaims, where calls come one after another.
pub mod Alike
pub mod Turns
pub mod Numbers
pub mod Follows
pub mod OnSlots
pub mod Calls
pub mod Rows
pub mod Others
pub mod Ends
pub mod Reclaims
pub mod Retires
pub mod Defers
pub mod CallEvents
pub mod MapEvents
