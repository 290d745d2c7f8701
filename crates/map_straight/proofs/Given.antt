-- What is so by the crates below, given on to the crates above: these list this crate in place of those.
pub use Rattle.map_rule.proofs.Given.SeizeMovesState
pub use Rattle.map_rule.proofs.Given.SeizeRuleRows
pub use Rattle.map_rule.proofs.Given.SeizeRuleWorld
pub use Rattle.map_rule.proofs.Keys as RuleKeys
pub use Rattle.map_rule.proofs.Laws as RuleLaws
pub use Rattle.map_rule.proofs.Moves as RuleMoves
pub use Rattle.map_rule.proofs.Spared as RuleSpared
pub use Rattle.map_rule.proofs.Words as RuleWords
pub use Rattle.map_rule.proofs.World as RuleWorld
