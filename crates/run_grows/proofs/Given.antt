-- What is so by the crates below, given on to the crates above: these list this crate in place of those.
pub use Rattle.run_finds.proofs.Begun as FindsBegun
pub use Rattle.run_finds.proofs.Capacities as FindsCapacities
pub use Rattle.run_finds.proofs.Closed as FindsClosed
pub use Rattle.run_finds.proofs.Doing as FindsDoing
pub use Rattle.run_finds.proofs.Endings as FindsEndings
pub use Rattle.run_finds.proofs.Found as FindsFound
pub use Rattle.run_finds.proofs.Given.CallersTogether
pub use Rattle.run_finds.proofs.Given.ChangesLogs
pub use Rattle.run_finds.proofs.Given.ExecutingOnSlotBegun
pub use Rattle.run_finds.proofs.Given.ExecutorRowLeads
pub use Rattle.run_finds.proofs.Given.FinishesEnds
pub use Rattle.run_finds.proofs.Given.FollowsAlike
pub use Rattle.run_finds.proofs.Given.FollowsCalling
pub use Rattle.run_finds.proofs.Given.FollowsContents
pub use Rattle.run_finds.proofs.Given.FollowsOperations
pub use Rattle.run_finds.proofs.Given.FollowsSteps
pub use Rattle.run_finds.proofs.Given.FollowsTold
pub use Rattle.run_finds.proofs.Given.General
pub use Rattle.run_finds.proofs.Given.HandsAsking
pub use Rattle.run_finds.proofs.Given.HandsCalling
pub use Rattle.run_finds.proofs.Given.HistoriesAside
pub use Rattle.run_finds.proofs.Given.HistoriesCalling
pub use Rattle.run_finds.proofs.Given.HistoriesNoKey
pub use Rattle.run_finds.proofs.Given.LateKindsKept
pub use Rattle.run_finds.proofs.Given.MomentsAfter
pub use Rattle.run_finds.proofs.Given.MomentsCalls
pub use Rattle.run_finds.proofs.Given.MomentsEnds
pub use Rattle.run_finds.proofs.Given.MomentsMakingSteps
pub use Rattle.run_finds.proofs.Given.MomentsMapsCome
pub use Rattle.run_finds.proofs.Given.MomentsNewMaps
pub use Rattle.run_finds.proofs.Given.MomentsNumbers
pub use Rattle.run_finds.proofs.Given.MomentsOnSlots
pub use Rattle.run_finds.proofs.Given.MomentsOver
pub use Rattle.run_finds.proofs.Given.MomentsWalks
pub use Rattle.run_finds.proofs.Given.NamedCalled
pub use Rattle.run_finds.proofs.Given.OthersLeads
pub use Rattle.run_finds.proofs.Given.OthersOutcomes
pub use Rattle.run_finds.proofs.Given.OthersRowPlans
pub use Rattle.run_finds.proofs.Given.ScenesGoes
pub use Rattle.run_finds.proofs.Given.ScenesTold
pub use Rattle.run_finds.proofs.Given.SeizeAloneHistories
pub use Rattle.run_finds.proofs.Given.SeizeAloneSpared
pub use Rattle.run_finds.proofs.Given.SeizeAloneWhole
pub use Rattle.run_finds.proofs.Given.SeizeEndsBatches
pub use Rattle.run_finds.proofs.Given.SeizeMemoryWords
pub use Rattle.run_finds.proofs.Given.SeizeMovesState
pub use Rattle.run_finds.proofs.Given.SeizeQuietSlots
pub use Rattle.run_finds.proofs.Given.SeizeReclaimsAllReclaimed
pub use Rattle.run_finds.proofs.Given.SeizeRulePoints
pub use Rattle.run_finds.proofs.Given.SeizeRuleRows
pub use Rattle.run_finds.proofs.Given.SeizeRuleWords
pub use Rattle.run_finds.proofs.Given.SeizeRuleWorld
pub use Rattle.run_finds.proofs.Given.SeizeSetsReclaims
pub use Rattle.run_finds.proofs.Given.SeizeSetsSlots
pub use Rattle.run_finds.proofs.Given.SeizeSetsTurns
pub use Rattle.run_finds.proofs.Given.SeizeWordsOneOwner
pub use Rattle.run_finds.proofs.Given.SeizeWordsPlaces
pub use Rattle.run_finds.proofs.Given.SettlesCalls
pub use Rattle.run_finds.proofs.Given.SettlesHand
pub use Rattle.run_finds.proofs.Given.ShardsShardCalls
pub use Rattle.run_finds.proofs.Given.SpotsEffects
pub use Rattle.run_finds.proofs.Given.SpotsUnreclaimed
pub use Rattle.run_finds.proofs.Grows as FindsGrows
pub use Rattle.run_finds.proofs.Joined as FindsJoined
pub use Rattle.run_finds.proofs.Life as FindsLife
pub use Rattle.run_finds.proofs.Lists as FindsLists
pub use Rattle.run_finds.proofs.Little as FindsLittle
pub use Rattle.run_finds.proofs.Over as FindsOver
pub use Rattle.run_finds.proofs.Placed as FindsPlaced
pub use Rattle.run_finds.proofs.Quiet as FindsQuiet
pub use Rattle.run_finds.proofs.Runs as FindsRuns
pub use Rattle.run_finds.proofs.Somewhere as FindsSomewhere
pub use Rattle.run_finds.proofs.Steps as FindsSteps
pub use Rattle.run_kept.proofs.Given.FollowsOfEach
pub use Rattle.run_kept.proofs.Given.HistoriesAnyCall
pub use Rattle.run_kept.proofs.Given.HistoriesDue
pub use Rattle.run_kept.proofs.Given.HistoriesDueOn
pub use Rattle.run_kept.proofs.Given.HistoriesOtherCalls
pub use Rattle.run_kept.proofs.Given.HistoriesOtherMidsts
pub use Rattle.run_kept.proofs.Given.HistoriesQuestions
pub use Rattle.run_kept.proofs.Given.HistoriesRetaining
pub use Rattle.run_kept.proofs.Given.HistoriesSeveral
pub use Rattle.run_kept.proofs.Given.LivesEach
pub use Rattle.run_kept.proofs.Given.LivesHandedMeant
pub use Rattle.run_kept.proofs.Given.LivesHandedRows
pub use Rattle.run_kept.proofs.Given.LivesLeftTables
pub use Rattle.run_kept.proofs.Given.LivesOrder
pub use Rattle.run_kept.proofs.Given.LivesReclaimed
pub use Rattle.run_kept.proofs.Given.LivesRetiredCalls
pub use Rattle.run_kept.proofs.Given.LivesRetires
pub use Rattle.run_kept.proofs.Given.LivesRows
pub use Rattle.run_kept.proofs.Given.LivesWorlds
pub use Rattle.run_kept.proofs.Given.OwesCalls
pub use Rattle.run_kept.proofs.Given.OwesClear
pub use Rattle.run_kept.proofs.Given.OwesEvents
pub use Rattle.run_kept.proofs.Given.OwesKept
pub use Rattle.run_kept.proofs.Given.OwesLooking
pub use Rattle.run_kept.proofs.Given.OwesReady
pub use Rattle.run_kept.proofs.Given.OwesShort
pub use Rattle.run_kept.proofs.Given.OwesTables
pub use Rattle.run_kept.proofs.Given.PromisesBrief
pub use Rattle.run_kept.proofs.Given.PromisesGuards
pub use Rattle.run_kept.proofs.Given.PromisesProtected
pub use Rattle.run_kept.proofs.Given.PromisesShelters
pub use Rattle.run_kept.proofs.Given.PromisesWeights
pub use Rattle.run_kept.proofs.Given.RemainsLists
pub use Rattle.run_kept.proofs.Given.RemainsSlots
pub use Rattle.run_kept.proofs.Given.ScenesMay
pub use Rattle.run_kept.proofs.Given.ScenesNoCall
pub use Rattle.run_kept.proofs.Given.ScenesRows
pub use Rattle.run_kept.proofs.Given.SettlesUncounted
pub use Rattle.run_kept.proofs.Given.ShardsShardBetween
pub use Rattle.run_kept.proofs.Given.ShardsShardKept
pub use Rattle.run_kept.proofs.Given.ShardsShardMakes
pub use Rattle.run_kept.proofs.Given.ShardsShardNumbers
pub use Rattle.run_kept.proofs.Given.ShardsShardOthers
pub use Rattle.run_kept.proofs.Kept.Between as KeptBetween
pub use Rattle.run_kept.proofs.Kept.Calls as KeptCalls
pub use Rattle.run_kept.proofs.Kept.Others as KeptOthers
pub use Rattle.run_kept.proofs.Kept.Renamed as KeptRenamed
pub use Rattle.run_kept.proofs.Kept.Stays as KeptStays
pub use Rattle.run_kept.proofs.Models.Alike as ModelsAlike
pub use Rattle.run_kept.proofs.Models.CallEvents as ModelsCallEvents
pub use Rattle.run_kept.proofs.Models.Calls as ModelsCalls
pub use Rattle.run_kept.proofs.Models.Ends as ModelsEnds
pub use Rattle.run_kept.proofs.Models.Follows as ModelsFollows
pub use Rattle.run_kept.proofs.Models.MapEvents as ModelsMapEvents
pub use Rattle.run_kept.proofs.Models.Numbers as ModelsNumbers
pub use Rattle.run_kept.proofs.Models.OnSlots as ModelsOnSlots
pub use Rattle.run_kept.proofs.Models.Reclaims as ModelsReclaims
pub use Rattle.run_kept.proofs.Models.RowSteps as ModelsRowSteps
pub use Rattle.run_kept.proofs.Models.Turns as ModelsTurns
pub use Rattle.run_kept.proofs.Sheds.ReclaimGives as ShedsReclaimGives
pub use Rattle.run_kept.proofs.Sheds.Reclaiming as ShedsReclaiming
