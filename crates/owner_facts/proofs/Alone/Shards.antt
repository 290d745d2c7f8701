-- What the shards of a counter say, and what a call counts in them.
pub mod Sums
mod Counts
pub mod Counted
pub mod Fewer
pub mod PairsChanged
pub mod Met
pub mod MetOn
pub mod MostMet
