-- Calls of whatever kind: what they say has words, and their events are linearizable.
pub mod Words
pub mod HasWords
pub mod InEvent
pub mod AsksThere
pub mod Lasts
pub mod Whole
pub mod Over
