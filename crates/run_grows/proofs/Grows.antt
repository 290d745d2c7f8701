-- What effects of calls find: why they ask for blocks, what they have met where a table is full, which tables they link, and behind which they put pairs.
pub mod CopiersNext
pub mod CopiersAsk
pub mod Finding
pub mod Limits
pub mod Tries
pub mod Since
