-- What the words of a memory show: links, lists through words, and the state with its lists.
pub mod Apart
pub mod Chains
pub mod Lists
pub mod Named
pub mod Rewritten
pub mod Room
pub mod Shows
pub mod ShowsStart
pub mod Sums
pub mod There
pub mod View
