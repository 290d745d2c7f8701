pub mod Seeking
pub mod Kept
pub mod Made
pub mod Done
pub mod Found
pub mod Owning
