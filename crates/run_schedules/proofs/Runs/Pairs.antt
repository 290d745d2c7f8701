-- Lists of pairs, by their numbers.
pub mod Held
