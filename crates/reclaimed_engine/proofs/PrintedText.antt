-- What is printed for a run of a script, and how it is written.
pub mod AscendingLemmas
pub mod PairLemmas
pub mod Spelling
