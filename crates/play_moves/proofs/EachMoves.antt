-- What an entry of a history finds and moves, by what it does.
pub mod BehindFound
pub mod Buckets
pub mod Counted
pub mod EndMoves
pub mod Leaves
pub mod MapsIn
pub mod Needed
pub mod Opens
pub mod Order
pub mod Parts
pub mod Rooted
pub mod RowKinds
pub mod Steps
