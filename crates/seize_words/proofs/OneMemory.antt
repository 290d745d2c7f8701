-- The words and blocks that a collector and its maps stand on: links, names of words, places of slots,
-- and the operations on a memory.
mod FreeFlags
pub mod FreeGrown
pub mod FreeKept
mod FreeNumbers
pub mod FreeSteps
pub mod FreeWords
pub mod FreeTrees
pub mod DirectoryKept
pub mod OneOwner
pub mod Places
pub mod Plans
pub mod Stored
pub mod Pieces
pub mod Sent
