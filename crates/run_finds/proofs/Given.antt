-- What is so by the crates below, given on to the crates above: these list this crate in place of those.
pub use Rattle.run_blocks.proofs.Given.HistoriesAside
pub use Rattle.run_blocks.proofs.Given.HistoriesAsking
pub use Rattle.run_blocks.proofs.Given.HistoriesCalling
pub use Rattle.run_blocks.proofs.Given.HistoriesNoKey
pub use Rattle.run_blocks.proofs.Given.HistoriesRoles
pub use Rattle.run_blocks.proofs.Given.PromisesLists
pub use Rattle.run_blocks.proofs.Given.SettlesBetween
pub use Rattle.run_blocks.proofs.Given.SettlesCalls
pub use Rattle.run_blocks.proofs.Given.SettlesDueCalls
pub use Rattle.run_blocks.proofs.Given.SettlesHand
pub use Rattle.run_blocks.proofs.Given.SettlesTaken
pub use Rattle.run_blocks.proofs.Given.SettlesTakings
pub use Rattle.run_blocks.proofs.Owes.Fields as OwesFields
pub use Rattle.run_blocks.proofs.Owes.Known as OwesKnown
pub use Rattle.run_blocks.proofs.Shards.Adds as ShardsAdds
pub use Rattle.run_blocks.proofs.Shards.KeyAdds as ShardsKeyAdds
pub use Rattle.run_blocks.proofs.Shards.RestAdds as ShardsRestAdds
pub use Rattle.run_blocks.proofs.Shards.ShardCalls as ShardsShardCalls
pub use Rattle.run_executor.proofs.Executing.Again as ExecutorAgain
pub use Rattle.run_executor.proofs.Executing.OnSlotBegun as ExecutingOnSlotBegun
pub use Rattle.run_executor.proofs.Executing.RowLeads as ExecutorRowLeads
pub use Rattle.run_executor.proofs.Given.CallersAsked
pub use Rattle.run_executor.proofs.Given.CallersSights
pub use Rattle.run_executor.proofs.Given.CallersTogether
pub use Rattle.run_executor.proofs.Given.ChangesBegun
pub use Rattle.run_executor.proofs.Given.ChangesChanges
pub use Rattle.run_executor.proofs.Given.ChangesFound
pub use Rattle.run_executor.proofs.Given.ChangesHad
pub use Rattle.run_executor.proofs.Given.ChangesLater
pub use Rattle.run_executor.proofs.Given.ChangesLogs
pub use Rattle.run_executor.proofs.Given.ChangesNow
pub use Rattle.run_executor.proofs.Given.ChangesSteps
pub use Rattle.run_executor.proofs.Given.ChangesWithin
pub use Rattle.run_executor.proofs.Given.FinishesEnds
pub use Rattle.run_executor.proofs.Given.FollowsAlike
pub use Rattle.run_executor.proofs.Given.FollowsCalled
pub use Rattle.run_executor.proofs.Given.FollowsCalling
pub use Rattle.run_executor.proofs.Given.FollowsCalls
pub use Rattle.run_executor.proofs.Given.FollowsContents
pub use Rattle.run_executor.proofs.Given.FollowsFinds
pub use Rattle.run_executor.proofs.Given.FollowsOnward
pub use Rattle.run_executor.proofs.Given.FollowsOperations
pub use Rattle.run_executor.proofs.Given.FollowsRows
pub use Rattle.run_executor.proofs.Given.FollowsSteps
pub use Rattle.run_executor.proofs.Given.FollowsStored
pub use Rattle.run_executor.proofs.Given.FollowsTold
pub use Rattle.run_executor.proofs.Given.FollowsWrites
pub use Rattle.run_executor.proofs.Given.General
pub use Rattle.run_executor.proofs.Given.HandsAsking
pub use Rattle.run_executor.proofs.Given.HandsCalling
pub use Rattle.run_executor.proofs.Given.HandsReplacing
pub use Rattle.run_executor.proofs.Given.HandsRowSteps
pub use Rattle.run_executor.proofs.Given.LateCopiers
pub use Rattle.run_executor.proofs.Given.LateKindsKept
pub use Rattle.run_executor.proofs.Given.LateSwept
pub use Rattle.run_executor.proofs.Given.MomentsAfter
pub use Rattle.run_executor.proofs.Given.MomentsBeside
pub use Rattle.run_executor.proofs.Given.MomentsCalls
pub use Rattle.run_executor.proofs.Given.MomentsEnds
pub use Rattle.run_executor.proofs.Given.MomentsMakingSteps
pub use Rattle.run_executor.proofs.Given.MomentsMapsCome
pub use Rattle.run_executor.proofs.Given.MomentsNewMaps
pub use Rattle.run_executor.proofs.Given.MomentsNumbers
pub use Rattle.run_executor.proofs.Given.MomentsOnSlots
pub use Rattle.run_executor.proofs.Given.MomentsOver
pub use Rattle.run_executor.proofs.Given.MomentsWalks
pub use Rattle.run_executor.proofs.Given.MomentsWholeEnds
pub use Rattle.run_executor.proofs.Given.OthersLeads
pub use Rattle.run_executor.proofs.Given.OthersMakes
pub use Rattle.run_executor.proofs.Given.OthersMakingPlans
pub use Rattle.run_executor.proofs.Given.OthersOutcomes
pub use Rattle.run_executor.proofs.Given.OthersRowPlans
pub use Rattle.run_executor.proofs.Given.OthersWalks
pub use Rattle.run_executor.proofs.Given.PointsCalls
pub use Rattle.run_executor.proofs.Given.PointsMovedLasts
pub use Rattle.run_executor.proofs.Given.RuleHistory
pub use Rattle.run_executor.proofs.Given.RuleKeys
pub use Rattle.run_executor.proofs.Given.RuleLaws
pub use Rattle.run_executor.proofs.Given.RuleMoves
pub use Rattle.run_executor.proofs.Given.RuleWords
pub use Rattle.run_executor.proofs.Given.RuleWorld
pub use Rattle.run_executor.proofs.Given.ScenesGoes
pub use Rattle.run_executor.proofs.Given.ScenesTold
pub use Rattle.run_executor.proofs.Given.SeizeActsWaits
pub use Rattle.run_executor.proofs.Given.SeizeAloneHistories
pub use Rattle.run_executor.proofs.Given.SeizeAloneSpared
pub use Rattle.run_executor.proofs.Given.SeizeAloneWhole
pub use Rattle.run_executor.proofs.Given.SeizeEndsBatches
pub use Rattle.run_executor.proofs.Given.SeizeMemoryWords
pub use Rattle.run_executor.proofs.Given.SeizeMovesState
pub use Rattle.run_executor.proofs.Given.SeizeQuietSlots
pub use Rattle.run_executor.proofs.Given.SeizeReclaimsAllReclaimed
pub use Rattle.run_executor.proofs.Given.SeizeRulePoints
pub use Rattle.run_executor.proofs.Given.SeizeRuleRows
pub use Rattle.run_executor.proofs.Given.SeizeRuleWords
pub use Rattle.run_executor.proofs.Given.SeizeRuleWorld
pub use Rattle.run_executor.proofs.Given.SeizeSetsReclaims
pub use Rattle.run_executor.proofs.Given.SeizeSetsSlots
pub use Rattle.run_executor.proofs.Given.SeizeSetsTurns
pub use Rattle.run_executor.proofs.Given.SeizeWordsOneOwner
pub use Rattle.run_executor.proofs.Given.SeizeWordsPlaces
pub use Rattle.run_executor.proofs.Given.SeizeWordsPlans
pub use Rattle.run_executor.proofs.Given.SpotsDeferred
pub use Rattle.run_executor.proofs.Given.SpotsDone
pub use Rattle.run_executor.proofs.Given.SpotsEffects
pub use Rattle.run_executor.proofs.Given.SpotsElsewhere
pub use Rattle.run_executor.proofs.Given.SpotsHanding
pub use Rattle.run_executor.proofs.Given.SpotsNames
pub use Rattle.run_executor.proofs.Given.SpotsOnSlots
pub use Rattle.run_executor.proofs.Given.SpotsPlaced
pub use Rattle.run_executor.proofs.Given.SpotsRows
pub use Rattle.run_executor.proofs.Given.SpotsSteps
pub use Rattle.run_executor.proofs.Given.SpotsStills
pub use Rattle.run_executor.proofs.Given.SpotsTaken
pub use Rattle.run_executor.proofs.Given.SpotsUnreclaimed
pub use Rattle.run_executor.proofs.Given.TellsPromised
pub use Rattle.run_executor.proofs.Named.Called as NamedCalled
