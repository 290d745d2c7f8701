-- What a call may answer by its kind, and what it may be refused for.
pub mod Calls
pub mod Rooms
pub mod Laws
