-- Everything is reclaimed, alone, step by step up to its end.
pub mod Calls
pub mod Ends
pub mod Gives
pub mod Only
pub mod Points
pub mod Rest
pub mod Steps
pub mod Traces
pub mod Weights
