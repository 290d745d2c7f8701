-- What calls have asked for.
pub mod Effects
pub mod Denied
pub mod Unmade
pub mod Calls
pub mod Between
