-- What is so by the crates below, given on to the crates above: these list this crate in place of those.
pub use Rattle.map_sweeps.proofs.Given.TablesEnds
pub use Rattle.map_sweeps.proofs.Given.TablesLists
pub use Rattle.map_sweeps.proofs.Given.TablesPlaces
pub use Rattle.map_sweeps.proofs.Given.TablesTableLens
