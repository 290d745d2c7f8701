-- What is so by the crates below, given on to the crates above: these list this crate in place of those.
pub use Rattle.many_calls.proofs.Asked as CallersAsked
pub use Rattle.many_calls.proofs.Given.LateKindsKept
pub use Rattle.many_calls.proofs.Given.PointsDescents
pub use Rattle.many_calls.proofs.Given.PointsLawful
pub use Rattle.many_calls.proofs.Given.PointsMovedLasts
pub use Rattle.many_calls.proofs.Given.PointsValues
pub use Rattle.many_calls.proofs.Given.RuleKeys
pub use Rattle.many_calls.proofs.Given.RuleMoves
pub use Rattle.many_calls.proofs.Given.RuleSpared
pub use Rattle.many_calls.proofs.Given.RuleWords
pub use Rattle.many_calls.proofs.Given.RuleWorld
pub use Rattle.many_calls.proofs.Given.SeizeAloneHistories
pub use Rattle.many_calls.proofs.Given.SeizeAloneLaws
pub use Rattle.many_calls.proofs.Given.SeizeEndsRows
pub use Rattle.many_calls.proofs.Given.SeizeEndsSettling
pub use Rattle.many_calls.proofs.Given.SeizeRuleRows
pub use Rattle.many_calls.proofs.Given.SeizeRuleWorld
pub use Rattle.many_calls.proofs.Rows as CallersRows
pub use Rattle.seize_acts.proofs.Acts.Waits as SeizeActsWaits
pub use Rattle.seize_acts.proofs.Given.SeizeEndsBatches
pub use Rattle.seize_acts.proofs.Quiet.Slots as SeizeQuietSlots
