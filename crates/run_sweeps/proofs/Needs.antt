-- What the makings of maps, their ends and rows on slots need, and make.
pub mod Ends
pub mod Firsts
pub mod Flushes
pub mod Makings
pub mod Steps
pub mod TablesMade
pub mod Shifts
