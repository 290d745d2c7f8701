-- What the one operation of a step of a call tells of the change that it made to its map.
pub mod Seen
pub mod Tells
