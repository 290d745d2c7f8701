pub mod Tellings
pub mod Calls
mod Holders
pub mod Calling
pub mod Forms
mod Lookups
mod Makings
pub mod Told
pub mod Shown
pub mod Pausing
pub mod Straight
mod Storings
pub mod Sinces
pub mod Answering
pub mod Handing
pub mod Given
