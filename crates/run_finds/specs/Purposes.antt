-- What calls for room and sweeps are for, in the words of a run.
pub mod Keys
pub mod Needs
pub mod Purposes
pub mod Shards
pub mod Tableless
