-- A map that ends among others: what each step, of whomever, leaves of it, and what it leaves of them.
pub mod Yet
pub mod LeftAlone
pub mod Beside
pub mod Calls
pub mod Rows
pub mod Rooms
pub mod Countings
pub mod Sweeps
pub mod Machines
pub mod MachinesTold
pub mod Makings
pub mod Begins
pub mod Choices
pub mod Own
pub mod Owners
