-- Each step of a call under way, whichever it is: it lowers a number, or waits for a reason; and a lookup's steps are loads.
mod Widened
mod Own
mod Swept
mod Kept
mod Within
mod Rows
mod KeyRows
mod RoomRows
mod SweepRows
pub mod Machines
mod Stays
mod Unwritten
pub mod ItsPair
pub mod Waits
pub mod Looks
