-- What was so, or was done, since a call began.
pub mod Began
pub mod Step
pub mod Pairs
pub mod PairsOn
pub mod LatePairs
pub mod Given
