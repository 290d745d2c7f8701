-- By its history a list of acts gives nothing back that left its map in a section that goes on.
pub mod Sections
pub mod Goes
pub mod Guards
pub mod ByKind
pub mod After
pub mod RowSteps
pub mod Entries
pub mod Quiet
pub mod Acts
mod Played
mod Stays
pub mod Protected
