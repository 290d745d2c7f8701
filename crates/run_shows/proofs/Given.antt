-- What is so by the crates below, given on to the crates above: these list this crate in place of those.
pub use Rattle.many_maps.proofs.Among as FinishesAmong
pub use Rattle.many_maps.proofs.Beside as FinishesBeside
pub use Rattle.many_maps.proofs.Ends as FinishesEnds
pub use Rattle.many_maps.proofs.Given.CallersAsked
pub use Rattle.many_maps.proofs.Given.CallersRows
pub use Rattle.many_maps.proofs.Given.CallersSights
pub use Rattle.many_maps.proofs.Given.CallersTogether
pub use Rattle.many_maps.proofs.Given.LateCopiers
pub use Rattle.many_maps.proofs.Given.LateKindsKept
pub use Rattle.many_maps.proofs.Given.LateSwept
pub use Rattle.many_maps.proofs.Given.PointsCalls
pub use Rattle.many_maps.proofs.Given.PointsLookups
pub use Rattle.many_maps.proofs.Given.PointsMovedLasts
pub use Rattle.many_maps.proofs.Given.RuleMoves
pub use Rattle.many_maps.proofs.Given.SeizeRuleWords
pub use Rattle.many_maps.proofs.Samples as ManyMapsSamples
pub use Rattle.run_effects.proofs.Given.RuleHistory
pub use Rattle.run_effects.proofs.Given.RuleKeys
pub use Rattle.run_effects.proofs.Given.RuleLaws
pub use Rattle.run_effects.proofs.Given.RuleWords
pub use Rattle.run_effects.proofs.Given.RuleWorld
pub use Rattle.run_effects.proofs.Given.RunsLaws
pub use Rattle.run_effects.proofs.Given.RunsPairs
pub use Rattle.run_effects.proofs.Given.SeizeMemoryWords
pub use Rattle.run_effects.proofs.Given.SeizeMovesSets
pub use Rattle.run_effects.proofs.Given.SeizeMovesState
pub use Rattle.run_effects.proofs.Given.SeizeRuleRows
pub use Rattle.run_effects.proofs.Given.SeizeWaitingFlushes
pub use Rattle.run_effects.proofs.Given.SeizeWaitingLaws
pub use Rattle.run_effects.proofs.Given.SeizeWaitingTidy
pub use Rattle.run_effects.proofs.ReportingMemory.Laws as ReportingMemoryLaws
pub use Rattle.run_effects.proofs.Tells.Promised as TellsPromised
pub use Rattle.seize_acts.proofs.Acts.Waits as SeizeActsWaits
pub use Rattle.seize_acts.proofs.Given.SeizeAloneHistories
pub use Rattle.seize_acts.proofs.Given.SeizeAloneLaws
pub use Rattle.seize_acts.proofs.Given.SeizeAloneSpared
pub use Rattle.seize_acts.proofs.Given.SeizeAloneWhole
pub use Rattle.seize_acts.proofs.Given.SeizeEndsBatches
pub use Rattle.seize_acts.proofs.Given.SeizeEndsRows
pub use Rattle.seize_acts.proofs.Given.SeizeEndsSettling
pub use Rattle.seize_acts.proofs.Given.SeizeMovesMoves
pub use Rattle.seize_acts.proofs.Given.SeizeRulePoints
pub use Rattle.seize_acts.proofs.Given.SeizeRuleWorld
pub use Rattle.seize_acts.proofs.Given.SeizeSetsReclaims
pub use Rattle.seize_acts.proofs.Given.SeizeSetsSlots
pub use Rattle.seize_acts.proofs.Given.SeizeSetsTurns
pub use Rattle.seize_acts.proofs.Quiet.Slots as SeizeQuietSlots
pub use Rattle.seize_acts.proofs.Reclaims.AllReclaimed as SeizeReclaimsAllReclaimed
pub use Rattle.seize_acts.proofs.Reclaims.Roots as SeizeReclaimsRoots
pub use Rattle.seize_words.proofs.General
pub use Rattle.seize_words.proofs.OneMemory.OneOwner as SeizeWordsOneOwner
pub use Rattle.seize_words.proofs.OneMemory.Places as SeizeWordsPlaces
pub use Rattle.seize_words.proofs.OneMemory.Plans as SeizeWordsPlans
