-- What each kind of event keeps, as the scheduler plays it, and that a run goes on with it.
pub mod Asked
pub mod OfCalls
pub mod OfRows
pub mod OfAll
pub mod OfSetups
