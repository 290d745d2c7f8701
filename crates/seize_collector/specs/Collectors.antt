-- The collector: a number, a memory that threads share by its rows, and the end of all that waits there.
pub mod Made
