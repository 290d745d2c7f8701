-- The log of a run is the grouping of the history of a list of acts: each event is some of its entries, one after another.
pub mod Aborts
pub mod OneMore
pub mod Reached
pub mod Wanted
pub mod Midst
pub mod Aside
pub mod RowGoes
pub mod EndGoes
pub mod CallBegins
pub mod Chosen
pub mod MakingGoes
pub mod AllGoes
pub mod Callers
