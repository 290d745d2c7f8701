-- Which batches are held, and by whom.
pub mod Free
pub mod Held
pub mod Rows
