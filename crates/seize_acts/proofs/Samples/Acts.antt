-- Acts worked by hand, and wrong plans that the laws refuse.
mod Acts
pub mod Base
mod Passes
mod Plans
mod Reclaimed
mod Refused
