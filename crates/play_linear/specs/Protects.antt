-- By its history a list of acts gives nothing back that left its map in a section that goes on.
pub mod Shelters
pub mod Protected
