-- What lies behind blocks that users have, whoever takes a step: behind linked tables, and behind those that a call has yet to hand over.
pub mod Theirs
pub mod Promises
pub mod Lists
