-- What callers do with their slots, run to its end: which rows end done, which slot a registering takes, and who is there by name.
pub mod Rows
pub mod Taking
pub mod Stores
pub mod Settling
