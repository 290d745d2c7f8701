-- What a seat of a memory of maps knows on its errand, as it begins and at each step.
pub mod Calling
pub mod Counting
pub mod Looking
pub mod Making
pub mod Sweeping
