-- A memory that threads have shared is emptied of all that waits, while nobody else has it.
pub mod Emptying
pub mod Asked
pub mod Made
