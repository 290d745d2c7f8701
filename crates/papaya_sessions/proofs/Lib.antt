mod Compared
pub mod Extended
mod OneMap
mod Under
mod Walked
