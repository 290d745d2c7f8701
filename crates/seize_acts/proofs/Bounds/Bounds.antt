-- A list that was taken from a slot is counted down within a number of steps, where no value keeps a list, whatever the others do meanwhile.
pub mod Beside
pub mod Entries
pub mod Values
pub mod Knows
pub mod Opened
pub mod Machine
pub mod Moves
pub mod Passing
pub mod Hands
pub mod Rows
pub mod Steps
pub mod Within
