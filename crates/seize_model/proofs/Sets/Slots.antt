-- Which slots whole calls take, keep and give up.
pub mod Kept
pub mod Least
mod Others
pub mod Registers
pub mod Retaken
pub mod Vacant
