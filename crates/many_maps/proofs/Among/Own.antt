-- What a step of the end of a map leaves: each other map, making and end stands as it stood.
pub mod Apart
pub mod Waiting
pub mod Maps
pub mod Makings
pub mod Others
pub mod Together
pub mod Steps
