-- The points of the making of a table.
pub mod EndsNewTable
pub mod EndsSum
mod ListWords
pub mod OwnTables
pub mod NewTable
pub mod Sum
pub mod TableDrops
mod TableLinks
mod TableMade
pub mod TablesBegin
pub mod Planned
