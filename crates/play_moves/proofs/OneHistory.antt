-- What threads are answered is of one legal history.
mod Numbers
mod Own
pub mod Legal
mod Wanted
mod Lookups
mod Words
mod Order
mod Tells
mod Acts
mod Along
pub mod Answered
pub mod Calls
pub mod Named
pub mod Whole
