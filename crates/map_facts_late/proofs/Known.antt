-- What a caller knows of its call lasts while others step.
pub mod Tables
pub mod Pairs
pub mod Own
pub mod Copies
pub mod Disposes
pub mod Calls
pub mod Steps
