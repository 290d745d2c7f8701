-- What leaves its map is sheltered by the sections that are open, by kind of step.
pub mod Outs
pub mod Noted
pub mod Lasting
pub mod Within
pub mod Calls
pub mod Rows
pub mod Makings
pub mod Ends
pub mod Begins
pub mod Events
