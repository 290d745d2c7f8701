-- As a map ends, entry by entry, what it takes is next, and nothing of it is left in the end.
mod Others
pub mod EndSteps
mod Played
mod MakingGoes
mod EndingGoes
pub mod EndStepGoes
pub mod Stays
pub mod InOrder
