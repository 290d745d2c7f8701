-- Steps and runs that put no pair into a block.
pub mod Hands
pub mod Machines
pub mod None
pub mod Puts
