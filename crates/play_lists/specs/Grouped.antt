-- The log of a run is the grouping of the history of a list of acts: each event is some of its entries, one after another.
pub mod Grouping
pub mod ByActs
pub mod Reach
pub mod Called
