-- What is so of a key, by its tries and by the tables.
mod Absent
pub mod AllBelow
pub mod Always
pub mod ClassesBeyond
pub mod ClassesFound
pub mod ClassesSeen
pub mod NamedAlone
pub mod TriesLast
pub mod TriesSeen
pub mod LaterTables
