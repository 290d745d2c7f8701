-- What the words of a map for one owner show of its pairs, and what it has once pairs were stored in it one after another.
pub mod Maps
pub mod Stored
