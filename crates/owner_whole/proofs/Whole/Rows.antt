-- Rows of the collector within a call that is alone.
pub mod Account
pub mod Standing
pub mod Kinds
pub mod Settles
pub mod Within
pub mod Shards
pub mod Steps
pub mod Falls
