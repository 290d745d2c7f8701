-- A memory that threads have shared is emptied of all that waits, while nobody else has it.
pub mod Steps
pub mod Seeking
pub mod Alone
