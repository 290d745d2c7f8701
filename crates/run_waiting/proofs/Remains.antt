-- Each kind of step keeps what is left over.
pub mod Lists
pub mod Stays
pub mod Steps
pub mod Makings
pub mod Endings
pub mod Maps
pub mod Rests
pub mod Numbered
pub mod Slots
pub mod Leads
pub mod InOrder
