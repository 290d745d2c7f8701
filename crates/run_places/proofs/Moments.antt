-- What a moment of a run shows of a scene, in one piece.
pub mod After
pub mod Beside
pub mod OnSlots
pub mod Ends
pub mod Makings
pub mod MakingSteps
pub mod MapsCome
pub mod Numbers
pub mod NewMaps
pub mod Over
pub mod WholeEnds
pub mod Calls
pub mod Walks
pub mod Roles
