-- What the history of a list of acts says agrees with what is so: of the shards of maps, and of the slots whose sections are open.
pub mod Shards
pub mod Places
pub mod Guards
pub mod Grants
pub mod Fresh
pub mod Agree
