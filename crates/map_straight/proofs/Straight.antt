-- Lemmas on straight code.
pub mod Copies
pub mod Disposals
pub mod Inside
pub mod Looks
pub mod Removals
pub mod Stores
