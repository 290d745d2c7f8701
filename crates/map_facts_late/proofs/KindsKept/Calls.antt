-- What a call on one key answers by its kind.
pub mod Asked
pub mod Kept
pub mod Lookups
