-- Schedules whose calls stay under way: any event happens, and a whole schedule runs.
pub mod Beginning
pub mod Ended
mod Forms
pub mod Happened
pub mod Gives
pub mod Mays
mod Left
pub mod Logs
mod AsRun
pub mod CallerFound
pub mod Turns
pub mod Counts
pub mod Held
pub mod OfKinds
pub mod Joined
pub mod Classes
pub mod GoingOn
