-- Tests of the memory that threads share, under rules of their own: two threads at a time, or four, each with a seat of its own.
pub mod Grown
pub mod Theirs
pub mod Three
pub mod Roomy
pub mod Leaned
pub mod Leaning
pub mod Root
