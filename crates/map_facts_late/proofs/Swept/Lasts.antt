-- What a sweep knows lasts while others step.
pub mod Sweeps
