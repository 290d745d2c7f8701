-- Lemmas on what one owner sweeps, and on what is so from question to question.
pub mod Along
pub mod Over
