pub mod Owes
pub mod Shards
pub mod Given
