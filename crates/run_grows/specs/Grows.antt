-- What effects of calls find: why they ask for blocks, what they have met where a table is full, which tables they link, and behind which they put pairs.
pub mod Further
pub mod Nexts
pub mod Copiers
pub mod Tries
pub mod Finding
pub mod Rests
pub mod Limits
