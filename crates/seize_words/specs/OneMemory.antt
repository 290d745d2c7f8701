-- The words and blocks that a collector and its maps stand on: links, names of words, places of slots,
-- and the operations on a memory.
pub mod Fault
pub mod Word
pub mod Place
pub mod SlotWords
pub mod Op
pub mod Mem
pub mod Plan
pub mod Buckets
pub mod FreeNumbers
pub mod Free
pub mod Directory
pub mod Room
pub mod Piece
