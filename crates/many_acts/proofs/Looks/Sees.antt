-- What steps of calls see lasts.
pub mod Plans
pub mod Operations
mod Held
mod Tables
mod Copiers
mod Disposals
mod Lookups
mod Rooms
mod Own
mod Calls
mod Left
pub mod Promised
pub mod Made
