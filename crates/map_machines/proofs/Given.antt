-- What is so by the crates below, given on to the crates above: these list this crate in place of those.
pub use Rattle.map_tables.proofs.Ends as TablesEnds
pub use Rattle.map_tables.proofs.Given.General
pub use Rattle.seize.proofs.StepsInto as SeizeStepsInto
pub use Rattle.map_tables.proofs.Given.SeizeWordsOneOwner
pub use Rattle.map_tables.proofs.Given.SeizeWordsPlans
pub use Rattle.map_tables.proofs.Lists as TablesLists
pub use Rattle.map_tables.proofs.Places as TablesPlaces
pub use Rattle.map_tables.proofs.TableLens as TablesTableLens
pub use Rattle.map_tables.proofs.Given.SeizeWordsPlans.{may_as, steps_as}
