-- Machines that the one owner of a memory runs to their ends, and what a map's calls come to then.
pub mod Calling
pub mod Inside
pub mod Machines
pub mod Owned
pub mod Rooms
pub mod Tries
