-- Words of runs of schedules: names, pairs, tables, single events, and who holds a slot.
mod Events
pub mod Laws
pub mod PairLists
pub mod Pairs
pub mod Sames
