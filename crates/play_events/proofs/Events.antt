-- What each kind of event keeps, as the scheduler plays it, and that a run goes on with it.
pub mod Remaining
pub mod Reached
pub mod OfCalls
pub mod OfRows
pub mod OfEnds
pub mod OfMakings
pub mod OfAll
pub mod OfSetups
pub mod Nobody
pub mod Refusals
