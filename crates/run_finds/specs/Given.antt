-- The words of the crates below, given on to the crates above: these list this crate in place of those.
pub use Rattle.run_blocks.specs.Given.HistoriesAnswers
pub use Rattle.run_blocks.specs.Given.HistoriesElsewhere
pub use Rattle.run_blocks.specs.Given.PromisesShelters
pub use Rattle.run_blocks.specs.Given.ResizeCopier
pub use Rattle.run_blocks.specs.Given.ResizeCopierClaims
pub use Rattle.run_blocks.specs.Given.ResizeCopierCounts
pub use Rattle.run_blocks.specs.Given.ResizeCopierFurther
pub use Rattle.run_blocks.specs.Given.ResizeCopierMarks
pub use Rattle.run_blocks.specs.Given.ResizeCopierPlaces
pub use Rattle.run_blocks.specs.Given.ResizeCopierPromotes
pub use Rattle.run_blocks.specs.Given.ResizeCopierStates
pub use Rattle.run_blocks.specs.Given.ResizeDeclared
pub use Rattle.run_blocks.specs.Given.ResizeNewTable
pub use Rattle.run_blocks.specs.Given.ResizeSum
pub use Rattle.run_blocks.specs.Given.SettlesCounts
pub use Rattle.run_blocks.specs.Given.SettlesDue
pub use Rattle.run_blocks.specs.Given.SettlesEntries
pub use Rattle.run_blocks.specs.Given.SettlesHand
pub use Rattle.run_blocks.specs.Given.SettlesInHand
pub use Rattle.run_blocks.specs.Given.SettlesOwed
pub use Rattle.run_blocks.specs.Given.SettlesOwing
pub use Rattle.run_blocks.specs.Given.TablesChunks
pub use Rattle.run_blocks.specs.Given.TablesCounts
pub use Rattle.run_blocks.specs.Given.TablesDeclared
pub use Rattle.run_blocks.specs.Given.TablesLengths
pub use Rattle.run_blocks.specs.Given.TablesMarks
pub use Rattle.run_blocks.specs.Given.TablesNodes
pub use Rattle.run_blocks.specs.Given.TablesPowers
pub use Rattle.run_blocks.specs.Given.TablesProbes
pub use Rattle.run_blocks.specs.Shards.ShardSteps as ShardsShardSteps
pub use Rattle.run_blocks.specs.Shards.ShardWords as ShardsShardWords
pub use Rattle.run_executor.specs.Executing.Beginning as ExecutorBeginning
pub use Rattle.run_executor.specs.Executing.Ending as ExecutorEnding
pub use Rattle.run_executor.specs.Executing.IsThere as ExecutorIsThere
pub use Rattle.run_executor.specs.Executing.Making as ExecutorMaking
pub use Rattle.run_executor.specs.Executing.MakingBegins as ExecutorMakingBegins
pub use Rattle.run_executor.specs.Executing.OnSlots as ExecutorOnSlots
pub use Rattle.run_executor.specs.Executing.Replying as ExecutorReplying
pub use Rattle.run_executor.specs.Executing.Stepping as ExecutorStepping
pub use Rattle.run_executor.specs.Given.CallersOverAll
pub use Rattle.run_executor.specs.Given.CallersPairs
pub use Rattle.run_executor.specs.Given.CallersRooms
pub use Rattle.run_executor.specs.Given.CallersRows
pub use Rattle.run_executor.specs.Given.CallersSights
pub use Rattle.run_executor.specs.Given.CallersTogether
pub use Rattle.run_executor.specs.Given.ChangesChanges
pub use Rattle.run_executor.specs.Given.ChangesHad
pub use Rattle.run_executor.specs.Given.ChangesHistories
pub use Rattle.run_executor.specs.Given.ChangesKept
pub use Rattle.run_executor.specs.Given.EffectsDeclared
pub use Rattle.run_executor.specs.Given.EffectsEffects
pub use Rattle.run_executor.specs.Given.EffectsKnown
pub use Rattle.run_executor.specs.Given.FinishesMachines
pub use Rattle.run_executor.specs.Given.FinishesMaps
pub use Rattle.run_executor.specs.Given.FinishesSweeps
pub use Rattle.run_executor.specs.Given.FollowsBlocks
pub use Rattle.run_executor.specs.Given.FollowsCalling
pub use Rattle.run_executor.specs.Given.FollowsCalls
pub use Rattle.run_executor.specs.Given.FollowsFinds
pub use Rattle.run_executor.specs.Given.FollowsMaps
pub use Rattle.run_executor.specs.Given.FollowsShows
pub use Rattle.run_executor.specs.Given.FollowsSteps
pub use Rattle.run_executor.specs.Given.HandsAsked
pub use Rattle.run_executor.specs.Given.HandsCalling
pub use Rattle.run_executor.specs.Given.HandsHands
pub use Rattle.run_executor.specs.Given.LateCovers
pub use Rattle.run_executor.specs.Given.LateCoversSweeps
pub use Rattle.run_executor.specs.Given.LateEnds
pub use Rattle.run_executor.specs.Given.LateFactsReserves
pub use Rattle.run_executor.specs.Given.LateFactsSweeps
pub use Rattle.run_executor.specs.Given.LateFaults
pub use Rattle.run_executor.specs.Given.LateKinds
pub use Rattle.run_executor.specs.Given.LateLateCalls
pub use Rattle.run_executor.specs.Given.LateLateCopies
pub use Rattle.run_executor.specs.Given.LateLateReserves
pub use Rattle.run_executor.specs.Given.LateLeft
pub use Rattle.run_executor.specs.Given.LateToldReserves
pub use Rattle.run_executor.specs.Given.LateToldSweeps
pub use Rattle.run_executor.specs.Given.MomentsEndings
pub use Rattle.run_executor.specs.Given.MomentsNumbers
pub use Rattle.run_executor.specs.Given.MomentsOnSlots
pub use Rattle.run_executor.specs.Given.MomentsWhole
pub use Rattle.run_executor.specs.Given.MomentsWholeEnds
pub use Rattle.run_executor.specs.Given.OthersAfter
pub use Rattle.run_executor.specs.Given.OthersElsewhere
pub use Rattle.run_executor.specs.Given.OthersWalks
pub use Rattle.run_executor.specs.Given.PointsFactsCalls
pub use Rattle.run_executor.specs.Given.PointsFactsCopies
pub use Rattle.run_executor.specs.Given.PointsFactsCopiesBlocking
pub use Rattle.run_executor.specs.Given.PointsFactsDisposes
pub use Rattle.run_executor.specs.Given.PointsFactsTables
pub use Rattle.run_executor.specs.Given.PointsSteps
pub use Rattle.run_executor.specs.Given.PointsTold
pub use Rattle.run_executor.specs.Given.RawDeclared
pub use Rattle.run_executor.specs.Given.RawMachine
pub use Rattle.run_executor.specs.Given.RawProgress
pub use Rattle.run_executor.specs.Given.ReclaimsSlots
pub use Rattle.run_executor.specs.Given.ReservesDeclared
pub use Rattle.run_executor.specs.Given.ReservesReserve
pub use Rattle.run_executor.specs.Given.RuleChart
pub use Rattle.run_executor.specs.Given.RuleInWorld
pub use Rattle.run_executor.specs.Given.RuleLasts
pub use Rattle.run_executor.specs.Given.RuleMaps
pub use Rattle.run_executor.specs.Given.RuleMoments
pub use Rattle.run_executor.specs.Given.RuleMoves
pub use Rattle.run_executor.specs.Given.RuleRule
pub use Rattle.run_executor.specs.Given.RuleWords
pub use Rattle.run_executor.specs.Given.RunsDeclared
pub use Rattle.run_executor.specs.Given.RunsLifeCycle
pub use Rattle.run_executor.specs.Given.RunsLog
pub use Rattle.run_executor.specs.Given.RunsPairs
pub use Rattle.run_executor.specs.Given.RunsPresent
pub use Rattle.run_executor.specs.Given.RunsSame
pub use Rattle.run_executor.specs.Given.ScenesBeginning
pub use Rattle.run_executor.specs.Given.ScenesHeld
pub use Rattle.run_executor.specs.Given.ScenesReplying
pub use Rattle.run_executor.specs.Given.ScenesScene
pub use Rattle.run_executor.specs.Given.ScenesStepping
pub use Rattle.run_executor.specs.Given.SchedulesAfter
pub use Rattle.run_executor.specs.Given.SchedulesBeginning
pub use Rattle.run_executor.specs.Given.SchedulesComing
pub use Rattle.run_executor.specs.Given.SchedulesCounts
pub use Rattle.run_executor.specs.Given.SchedulesEffects
pub use Rattle.run_executor.specs.Given.SchedulesEntry
pub use Rattle.run_executor.specs.Given.SchedulesGrowing
pub use Rattle.run_executor.specs.Given.SchedulesHanding
pub use Rattle.run_executor.specs.Given.SchedulesInTurn
pub use Rattle.run_executor.specs.Given.SchedulesLinearizable
pub use Rattle.run_executor.specs.Given.SchedulesLists
pub use Rattle.run_executor.specs.Given.SchedulesLives
pub use Rattle.run_executor.specs.Given.SchedulesMoment
pub use Rattle.run_executor.specs.Given.SchedulesRuns
pub use Rattle.run_executor.specs.Given.SchedulesSequential
pub use Rattle.run_executor.specs.Given.SchedulesSteps
pub use Rattle.run_executor.specs.Given.SchedulesSweeps
pub use Rattle.run_executor.specs.Given.SchedulesTerms
pub use Rattle.run_executor.specs.Given.SchedulesThings
pub use Rattle.run_executor.specs.Given.SchedulesTransition
pub use Rattle.run_executor.specs.Given.SchedulesViews
pub use Rattle.run_executor.specs.Given.SeizeAloneAlone
pub use Rattle.run_executor.specs.Given.SeizeDeclared
pub use Rattle.run_executor.specs.Given.SeizeFurther
pub use Rattle.run_executor.specs.Given.SeizeQuietSlots
pub use Rattle.run_executor.specs.Given.SeizeReclaimsAllReclaimed
pub use Rattle.run_executor.specs.Given.SeizeReclaimsRoots
pub use Rattle.run_executor.specs.Given.SeizeSetsReclaims
pub use Rattle.run_executor.specs.Given.SeizeSettle
pub use Rattle.run_executor.specs.Given.SeizeWaitingHeld
pub use Rattle.run_executor.specs.Given.SeizeWordsDeclared
pub use Rattle.run_executor.specs.Given.SeizeWordsMem
pub use Rattle.run_executor.specs.Given.SeizeWordsOp
pub use Rattle.run_executor.specs.Given.SeizeWordsPlan
pub use Rattle.run_executor.specs.Given.SeizeWordsWord
pub use Rattle.run_executor.specs.Given.SeizeWorld
pub use Rattle.run_executor.specs.Given.SpotsDeferred
pub use Rattle.run_executor.specs.Given.SpotsOnSlots
pub use Rattle.run_executor.specs.Given.SpotsSpots
pub use Rattle.run_executor.specs.Given.SpotsUnreclaimed
pub use Rattle.run_executor.specs.Given.SweepsSweep
pub use Rattle.run_executor.specs.Given.SweepsSweepPoints
pub use Rattle.run_executor.specs.Given.TellerTells
pub use Rattle.run_executor.specs.Given.TellsSeen
pub use Rattle.run_executor.specs.Given.TellsTells
pub use Rattle.run_executor.specs.Named.Machines as NamedMachines
pub use Rattle.run_executor.specs.Named.Places as NamedPlaces
pub use Rattle.run_executor.specs.Named.Seen as NamedSeen
pub use Rattle.run_executor.specs.Named.Telling as NamedTelling
pub use Rattle.run_executor.specs.ReclaimsAll.Reclaiming as ReclaimingReclaiming
pub use Rattle.run_executor.specs.declared as ExecutorDeclared
