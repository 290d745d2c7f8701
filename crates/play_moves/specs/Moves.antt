-- Entries of histories of lists of acts move on.
pub mod Steps
pub mod Order
pub mod Legal
pub mod Logs
