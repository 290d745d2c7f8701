-- What is so by the crates below, given on to the crates above: these list this crate in place of those.
pub use Rattle.map_facts.proofs.Blocking as PointsBlocking
pub use Rattle.map_facts.proofs.Calls as PointsCalls
pub use Rattle.map_facts.proofs.Copiers as PointsCopiers
pub use Rattle.map_facts.proofs.Descents as PointsDescents
pub use Rattle.map_facts.proofs.Disposals as PointsDisposals
pub use Rattle.map_facts.proofs.Given.RuleHistory
pub use Rattle.map_facts.proofs.Given.RuleKeys
pub use Rattle.map_facts.proofs.Given.RuleLaws
pub use Rattle.map_facts.proofs.Given.RuleMoves
pub use Rattle.map_facts.proofs.Given.RuleSamples
pub use Rattle.map_facts.proofs.Given.RuleShares
pub use Rattle.map_facts.proofs.Given.RuleSpared
pub use Rattle.map_facts.proofs.Given.RuleWords
pub use Rattle.map_facts.proofs.Given.RuleWorld
pub use Rattle.map_facts.proofs.Given.TablesLists
pub use Rattle.map_facts.proofs.Given.TablesPlaces
pub use Rattle.map_facts.proofs.Given.TablesTableLens
pub use Rattle.map_facts.proofs.Lawful as PointsLawful
pub use Rattle.map_facts.proofs.Lookups as PointsLookups
pub use Rattle.map_facts.proofs.Making as PointsMaking
pub use Rattle.map_facts.proofs.MovedLasts as PointsMovedLasts
pub use Rattle.map_facts.proofs.Steps as PointsSteps
pub use Rattle.map_facts.proofs.Values as PointsValues
