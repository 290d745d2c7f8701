-- What a moment of a run shows of a scene, in one piece.
pub mod Whole
pub mod Numbers
pub mod OnSlots
pub mod Endings
pub mod Makings
pub mod Walks
pub mod WholeEnds
