-- What calls hand over is what they took out of their maps, in order.
pub mod Effects
pub mod Seen
pub mod Logs
pub mod Steps
