-- Words of runs of schedules: names, pairs, tables, single events, and who holds a slot.
pub mod Same
pub mod PairPlaces
pub mod Sequential
pub mod LifeCycle
pub mod Present
pub mod Log
pub mod Stopped
pub mod Runs
pub mod Pairs
pub mod Laws
pub mod KeyHashes
