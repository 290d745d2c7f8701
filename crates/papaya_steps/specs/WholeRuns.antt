-- Schedules whose calls stay under way: any event happens, and a whole schedule runs.
pub mod Kinds
pub mod Classes
pub mod Back
pub mod Ending
pub mod Acting
pub mod Run
pub mod GoingOn
