-- Lemmas on where pairs were copied from.
mod Moves
mod Counting
mod Places
mod Room
mod Own
mod Left
pub mod New
mod Rising
pub mod Stays
mod Frame
pub mod Steps
mod Listed
pub mod Space
