-- Tests of the memory that threads share, under rules of their own: two threads at a time, or four, each with a seat of its own.
pub mod Growing
pub mod Owners
pub mod Threes
pub mod Roomy
pub mod Leaners
pub mod Roots
