-- Lists of the pairs that stand in a memory.
pub mod Balance
pub mod Kept
pub mod Lived
pub mod Lives
pub mod Numbers
pub mod Rest
pub mod Split
