-- What is so by the crates below, given on to the crates above: these list this crate in place of those.
pub use Rattle.map_machines.proofs.Given.SeizeStepsInto
pub use Rattle.map_machines.proofs.Given.SeizeWordsPlans
pub use Rattle.map_machines.proofs.Given.TablesEnds
pub use Rattle.map_machines.proofs.Given.TablesLists
pub use Rattle.map_machines.proofs.Given.TablesPlaces
pub use Rattle.map_machines.proofs.Given.TablesTableLens
