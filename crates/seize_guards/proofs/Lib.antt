pub mod Deferrals
pub mod Chains
pub mod Drawers
pub mod Samples
