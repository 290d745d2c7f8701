-- By each kind of step the entries that are steps of calls find what they must.
pub mod Over
pub mod ByCalls
pub mod ByOthers
pub mod ByMakings
pub mod Find
pub mod Kept
