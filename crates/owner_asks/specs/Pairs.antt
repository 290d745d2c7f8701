-- What is so of the pairs of a map for one owner, and of the elements of a set: in any order, once others are put, and where they are equal.
pub mod Orders
pub mod Equals
pub mod Puts
pub mod Each
pub mod Elements
