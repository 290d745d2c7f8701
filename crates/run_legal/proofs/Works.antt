-- What rows on slots, the makings of maps and their ends do: what they may do, and what they find.
pub mod Mays
pub mod Reached
pub mod Needs
pub mod Registering
