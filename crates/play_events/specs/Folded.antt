-- What a call hands over is what it took out of its map, in order.
pub mod Folded
pub mod Steps
