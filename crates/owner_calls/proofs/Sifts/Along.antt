-- What is so of one owner's call or sweep all the while, from question to question.
pub mod Calls
pub mod Sweeps
