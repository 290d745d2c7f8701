-- What a call under way has in hand at a moment of a run: the blocks that it has made.
pub mod Made
pub mod Keeping
pub mod Making
pub mod Beside
pub mod Tables
pub mod TablesBeside
pub mod Short
pub mod Grown
pub mod Looking
pub mod Clear
pub mod Events
