pub mod OutputLemmas
pub mod ParserLemmas
pub mod ReadingLemmas
mod Samples
pub mod ScriptLemmas
pub mod WordLemmas
