-- What a seat of a memory of maps knows on its errand, as it begins and at each step.
pub mod Beginnings
pub mod Machines
mod Swept
pub mod Looking
pub mod Runs
pub mod Stepping
pub mod Telling
pub mod Counting
pub mod Sweeping
