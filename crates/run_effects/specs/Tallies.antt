-- What is told of pairs and tables at the end of a run: by what was done to them, and by what is noted of the memory.
pub mod ByMap
pub mod Places
pub mod Tally
pub mod Left
pub mod Told
