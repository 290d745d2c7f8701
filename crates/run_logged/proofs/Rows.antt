-- What callers do with their slots, run to its end: which rows end done, which slot a registering takes, and who is there by name.
pub mod Lists
pub mod Facts
pub mod Elsewhere
pub mod Names
pub mod Registered
pub mod There
pub mod Ran
pub mod RunRow
pub mod Refusals
pub mod Taking
pub mod Least
pub mod Holders
pub mod NeverWaits
pub mod Light
pub mod InUse
