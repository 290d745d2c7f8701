-- What is so by the crates below, given on to the crates above: these list this crate in place of those.
pub use Rattle.map_rule.proofs.Given.SeizeMemoryWords
pub use Rattle.map_rule.proofs.Given.SeizeMovesSets
pub use Rattle.map_rule.proofs.Given.SeizeMovesState
pub use Rattle.map_rule.proofs.Given.SeizeRuleRows
pub use Rattle.map_rule.proofs.Given.SeizeRuleWords
pub use Rattle.map_rule.proofs.Given.SeizeWaitingFlushes
pub use Rattle.map_rule.proofs.Given.SeizeWaitingLaws
pub use Rattle.map_rule.proofs.Given.SeizeWaitingTidy
pub use Rattle.map_rule.proofs.History as RuleHistory
pub use Rattle.map_rule.proofs.Keys as RuleKeys
pub use Rattle.map_rule.proofs.Laws as RuleLaws
pub use Rattle.map_rule.proofs.Words as RuleWords
pub use Rattle.map_rule.proofs.World as RuleWorld
pub use Rattle.run_schedules.proofs.Given.TablesLists
pub use Rattle.run_schedules.proofs.Runs.Laws as RunsLaws
pub use Rattle.run_schedules.proofs.Runs.Pairs as RunsPairs
