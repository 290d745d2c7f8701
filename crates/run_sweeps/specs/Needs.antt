-- What the makings of maps, their ends and rows on slots need, and make.
pub mod Ends
pub mod Firsts
pub mod Makings
pub mod Needs
