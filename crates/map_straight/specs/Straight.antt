-- Operations of the map's machines as straight code: each function makes the very operations of one machine in their order, over any memory, and says
-- at which point of that machine it has stopped, or what that has told.
pub mod Copying
pub mod Disposing
pub mod Going
pub mod Looking
pub mod Removing
pub mod Storing
