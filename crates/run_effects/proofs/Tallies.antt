-- What is told of pairs and tables at the end of a run: by what was done to them, and by what is noted of the memory.
pub mod Leading
pub mod Tallies
pub mod MapLists
pub mod Numbers
pub mod Taken
pub mod Back
pub mod Found
