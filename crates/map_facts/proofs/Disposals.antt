-- The points of a disposal.
pub mod DisposesBegin
pub mod Points
mod Reads
mod Walks
