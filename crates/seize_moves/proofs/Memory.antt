-- What the words of a memory show of the collector's state, and what each write changes there.
pub mod Words
pub mod Written
