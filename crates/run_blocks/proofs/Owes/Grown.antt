-- What calls are to be refused for that are short of no growth.
pub mod Within
pub mod OnKeys
pub mod Machines
pub mod Between
pub mod Calls
