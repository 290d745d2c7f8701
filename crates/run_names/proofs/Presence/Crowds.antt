-- Items that stand at places of a list, each under a name.
pub mod Counts
pub mod Guards
pub mod Homes
pub mod Kept
pub mod Led
pub mod Weights
