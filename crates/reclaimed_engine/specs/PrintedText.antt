-- What is printed for a run of a script.
pub mod Ascending
pub mod Text
