-- A map that begins.
pub mod Faults
mod Length
mod Uncounted
mod TableRoots
mod Points
mod Roots
mod Tables
mod Values
pub mod Whole
pub mod MachinesEnd
pub mod ComesToEnd
