-- What is so by the crates below, given on to the crates above: these list this crate in place of those.
pub use Rattle.map_rule.proofs.Given.General
pub use Rattle.map_rule.proofs.Given.SeizeMemoryWords
pub use Rattle.map_rule.proofs.Given.SeizeRuleRows
pub use Rattle.map_rule.proofs.Given.SeizeWordsOneOwner
pub use Rattle.map_rule.proofs.Given.SeizeWordsPlans
pub use Rattle.map_rule.proofs.History as RuleHistory
pub use Rattle.map_rule.proofs.Keys as RuleKeys
pub use Rattle.map_rule.proofs.Laws as RuleLaws
pub use Rattle.map_rule.proofs.Moves as RuleMoves
pub use Rattle.map_rule.proofs.Samples as RuleSamples
pub use Rattle.map_rule.proofs.Shares as RuleShares
pub use Rattle.map_rule.proofs.Spared as RuleSpared
pub use Rattle.map_rule.proofs.Words as RuleWords
pub use Rattle.map_rule.proofs.World as RuleWorld
pub use Rattle.papaya_raw.proofs.Given.TablesEnds
pub use Rattle.papaya_raw.proofs.Given.TablesLists
pub use Rattle.papaya_raw.proofs.Given.TablesPlaces
pub use Rattle.papaya_raw.proofs.Given.TablesTableLens
