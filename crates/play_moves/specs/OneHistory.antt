-- What threads are answered is of one legal history.
pub mod Legal
pub mod Answered
pub mod Lookups
pub mod Calls
pub mod Whole
pub mod Order
