-- The words of the crates below, given on to the crates above: these list this crate in place of those.
pub use Rattle.papaya_raw.specs.CallAsks as RawCallAsks
pub use Rattle.papaya_raw.specs.Given.ReservesDeclared
pub use Rattle.papaya_raw.specs.Given.SeizeDeclared
pub use Rattle.papaya_raw.specs.Given.SeizeDefer
pub use Rattle.papaya_raw.specs.Given.SeizeEnter
pub use Rattle.papaya_raw.specs.Given.SeizeLaw
pub use Rattle.papaya_raw.specs.Given.SeizeLeave
pub use Rattle.papaya_raw.specs.Given.SeizeReclaimAll
pub use Rattle.papaya_raw.specs.Given.SeizeRegister
pub use Rattle.papaya_raw.specs.Given.SeizeSequence
pub use Rattle.papaya_raw.specs.Given.SeizeSettle
pub use Rattle.papaya_raw.specs.Given.SeizeWaitingSets
pub use Rattle.papaya_raw.specs.Given.SeizeWorld
pub use Rattle.papaya_raw.specs.Given.SweepsSweepPoints
pub use Rattle.papaya_raw.specs.Given.TablesChunks
pub use Rattle.papaya_raw.specs.Given.TablesDeclared
pub use Rattle.papaya_raw.specs.Given.TablesNodes
pub use Rattle.papaya_raw.specs.Machine as RawMachine
pub use Rattle.papaya_raw.specs.declared as RawDeclared
pub use Rattle.run_finds.specs.Bounded as FindsBounded
pub use Rattle.run_finds.specs.Capacities as FindsCapacities
pub use Rattle.run_finds.specs.Doing as FindsDoing
pub use Rattle.run_finds.specs.Given.CallersOverAll
pub use Rattle.run_finds.specs.Given.CallersPairs
pub use Rattle.run_finds.specs.Given.CallersRooms
pub use Rattle.run_finds.specs.Given.CallersRows
pub use Rattle.run_finds.specs.Given.CallersSights
pub use Rattle.run_finds.specs.Given.CallersTogether
pub use Rattle.run_finds.specs.Given.ChangesChanges
pub use Rattle.run_finds.specs.Given.ChangesHistories
pub use Rattle.run_finds.specs.Given.ChangesKept
pub use Rattle.run_finds.specs.Given.EffectsDeclared
pub use Rattle.run_finds.specs.Given.EffectsEffects
pub use Rattle.run_finds.specs.Given.EffectsKnown
pub use Rattle.run_finds.specs.Given.ExecutorDeclared
pub use Rattle.run_finds.specs.Given.ExecutorIsThere
pub use Rattle.run_finds.specs.Given.ExecutorOnSlots
pub use Rattle.run_finds.specs.Given.FinishesMachines
pub use Rattle.run_finds.specs.Given.FinishesMaps
pub use Rattle.run_finds.specs.Given.FollowsBlocks
pub use Rattle.run_finds.specs.Given.FollowsCalling
pub use Rattle.run_finds.specs.Given.FollowsCalls
pub use Rattle.run_finds.specs.Given.FollowsShows
pub use Rattle.run_finds.specs.Given.FollowsSteps
pub use Rattle.run_finds.specs.Given.HandsAsked
pub use Rattle.run_finds.specs.Given.HandsCalling
pub use Rattle.run_finds.specs.Given.HandsHands
pub use Rattle.run_finds.specs.Given.HistoriesAnswers
pub use Rattle.run_finds.specs.Given.LateFaults
pub use Rattle.run_finds.specs.Given.LateKinds
pub use Rattle.run_finds.specs.Given.MomentsEndings
pub use Rattle.run_finds.specs.Given.MomentsNumbers
pub use Rattle.run_finds.specs.Given.MomentsOnSlots
pub use Rattle.run_finds.specs.Given.MomentsWhole
pub use Rattle.run_finds.specs.Given.NamedMachines
pub use Rattle.run_finds.specs.Given.NamedPlaces
pub use Rattle.run_finds.specs.Given.NamedSeen
pub use Rattle.run_finds.specs.Given.OthersElsewhere
pub use Rattle.run_finds.specs.Given.OthersWalks
pub use Rattle.run_finds.specs.Given.PointsFactsCalls
pub use Rattle.run_finds.specs.Given.PointsSteps
pub use Rattle.run_finds.specs.Given.ReclaimsSlots
pub use Rattle.run_finds.specs.Given.ResizeDeclared
pub use Rattle.run_finds.specs.Given.ResizeNewTable
pub use Rattle.run_finds.specs.Given.RuleChart
pub use Rattle.run_finds.specs.Given.RuleInWorld
pub use Rattle.run_finds.specs.Given.ScenesBeginning
pub use Rattle.run_finds.specs.Given.ScenesHeld
pub use Rattle.run_finds.specs.Given.ScenesReplying
pub use Rattle.run_finds.specs.Given.ScenesScene
pub use Rattle.run_finds.specs.Given.ScenesStepping
pub use Rattle.run_finds.specs.Given.SeizeAloneAlone
pub use Rattle.run_finds.specs.Given.SeizeQuietSlots
pub use Rattle.run_finds.specs.Given.SeizeReclaimsAllReclaimed
pub use Rattle.run_finds.specs.Given.SeizeReclaimsRoots
pub use Rattle.run_finds.specs.Given.SeizeSetsReclaims
pub use Rattle.run_finds.specs.Given.SeizeWaitingHeld
pub use Rattle.run_finds.specs.Given.SeizeWordsDeclared
pub use Rattle.run_finds.specs.Given.SeizeWordsMem
pub use Rattle.run_finds.specs.Given.SeizeWordsOp
pub use Rattle.run_finds.specs.Given.SeizeWordsPlan
pub use Rattle.run_finds.specs.Given.SeizeWordsWord
pub use Rattle.run_finds.specs.Given.SettlesCounts
pub use Rattle.run_finds.specs.Given.SettlesDue
pub use Rattle.run_finds.specs.Given.SettlesHand
pub use Rattle.run_finds.specs.Given.SettlesInHand
pub use Rattle.run_finds.specs.Given.ShardsShardSteps
pub use Rattle.run_finds.specs.Given.ShardsShardWords
pub use Rattle.run_finds.specs.Given.SpotsOnSlots
pub use Rattle.run_finds.specs.Given.SpotsUnreclaimed
pub use Rattle.run_finds.specs.Given.TellerTells
pub use Rattle.run_finds.specs.Given.TellsSeen
pub use Rattle.run_finds.specs.Life as FindsLife
pub use Rattle.run_finds.specs.Linking as FindsLinking
pub use Rattle.run_finds.specs.Little as FindsLittle
pub use Rattle.run_finds.specs.Orderly as FindsOrderly
pub use Rattle.run_finds.specs.Parts as FindsParts
pub use Rattle.run_finds.specs.Purposes.Purposes as PurposesPurposes
pub use Rattle.run_finds.specs.Purposes.Shards as PurposesShards
pub use Rattle.run_finds.specs.Purposes.Tableless as PurposesTableless
pub use Rattle.run_finds.specs.Waiting as FindsWaiting
pub use Rattle.run_finds.specs.Within as FindsWithin
pub use Rattle.run_kept.specs.Given.FinishesEndings
pub use Rattle.run_kept.specs.Given.FinishesFactsEnds
pub use Rattle.run_kept.specs.Given.FinishesMakings
pub use Rattle.run_kept.specs.Given.HistoriesAsCalled
pub use Rattle.run_kept.specs.Given.HistoriesAsking
pub use Rattle.run_kept.specs.Given.HistoriesDue
pub use Rattle.run_kept.specs.Given.HistoriesEvents
pub use Rattle.run_kept.specs.Given.HistoriesInEvent
pub use Rattle.run_kept.specs.Given.HistoriesOtherCalls
pub use Rattle.run_kept.specs.Given.HistoriesQuestions
pub use Rattle.run_kept.specs.Given.HistoriesSeveral
pub use Rattle.run_kept.specs.Given.LivesBehind
pub use Rattle.run_kept.specs.Given.LivesHanded
pub use Rattle.run_kept.specs.Given.LivesRetired
pub use Rattle.run_kept.specs.Given.LivesWaiting
pub use Rattle.run_kept.specs.Given.OthersEndings
pub use Rattle.run_kept.specs.Given.OthersMakings
pub use Rattle.run_kept.specs.Given.OthersRows
pub use Rattle.run_kept.specs.Given.OwesEvents
pub use Rattle.run_kept.specs.Given.OwesLooking
pub use Rattle.run_kept.specs.Given.OwesMaking
pub use Rattle.run_kept.specs.Given.OwesTables
pub use Rattle.run_kept.specs.Given.PromisesGuards
pub use Rattle.run_kept.specs.Given.PromisesMeanwhile
pub use Rattle.run_kept.specs.Given.PromisesOthers
pub use Rattle.run_kept.specs.Given.PromisesProtected
pub use Rattle.run_kept.specs.Given.PromisesReading
pub use Rattle.run_kept.specs.Given.PromisesSheltered
pub use Rattle.run_kept.specs.Given.PromisesWeights
pub use Rattle.run_kept.specs.Given.ReclaimsReclaims
pub use Rattle.run_kept.specs.Given.RemainsSlots
pub use Rattle.run_kept.specs.Given.ScenesDeclared
pub use Rattle.run_kept.specs.Given.ScenesEnding
pub use Rattle.run_kept.specs.Given.ScenesMaking
pub use Rattle.run_kept.specs.Given.ScenesOnSlots
pub use Rattle.run_kept.specs.Given.ScenesReclaiming
pub use Rattle.run_kept.specs.Given.ScenesRows
pub use Rattle.run_kept.specs.Given.ShardsAdds
pub use Rattle.run_kept.specs.Kept.Kept as KeptKept
pub use Rattle.run_kept.specs.Models.Alike as ModelsAlike
pub use Rattle.run_kept.specs.Models.CallEvents as ModelsCallEvents
pub use Rattle.run_kept.specs.Models.Ends as ModelsEnds
pub use Rattle.run_kept.specs.Models.Follows as ModelsFollows
pub use Rattle.run_kept.specs.Models.MapEvents as ModelsMapEvents
pub use Rattle.run_kept.specs.Models.Numbers as ModelsNumbers
pub use Rattle.run_kept.specs.Models.OnSlots as ModelsOnSlots
pub use Rattle.run_kept.specs.Models.Reclaims as ModelsReclaims
pub use Rattle.run_kept.specs.Models.Turns as ModelsTurns
pub use Rattle.run_schedules.specs.Given.SeizeWordsPlace
pub use Rattle.run_schedules.specs.Given.SeizeWordsSlotWords
pub use Rattle.run_schedules.specs.Runs.Log as RunsLog
pub use Rattle.run_schedules.specs.Runs.Present as RunsPresent
pub use Rattle.run_schedules.specs.Runs.Same as RunsSame
pub use Rattle.run_schedules.specs.Schedules.After as SchedulesAfter
pub use Rattle.run_schedules.specs.Schedules.Beginning as SchedulesBeginning
pub use Rattle.run_schedules.specs.Schedules.Effects as SchedulesEffects
pub use Rattle.run_schedules.specs.Schedules.Entry as SchedulesEntry
pub use Rattle.run_schedules.specs.Schedules.Growing as SchedulesGrowing
pub use Rattle.run_schedules.specs.Schedules.Handing as SchedulesHanding
pub use Rattle.run_schedules.specs.Schedules.InTurn as SchedulesInTurn
pub use Rattle.run_schedules.specs.Schedules.InUse as SchedulesInUse
pub use Rattle.run_schedules.specs.Schedules.Linearizable as SchedulesLinearizable
pub use Rattle.run_schedules.specs.Schedules.Lists as SchedulesLists
pub use Rattle.run_schedules.specs.Schedules.Lives as SchedulesLives
pub use Rattle.run_schedules.specs.Schedules.Model as SchedulesModel
pub use Rattle.run_schedules.specs.Schedules.Moment as SchedulesMoment
pub use Rattle.run_schedules.specs.Schedules.Reclaims as SchedulesReclaims
pub use Rattle.run_schedules.specs.Schedules.Runs as SchedulesRuns
pub use Rattle.run_schedules.specs.Schedules.Sequential as SchedulesSequential
pub use Rattle.run_schedules.specs.Schedules.Steps as SchedulesSteps
pub use Rattle.run_schedules.specs.Schedules.Sweeps as SchedulesSweeps
pub use Rattle.run_schedules.specs.Schedules.Terms as SchedulesTerms
pub use Rattle.run_schedules.specs.Schedules.Things as SchedulesThings
pub use Rattle.run_schedules.specs.Schedules.Transition as SchedulesTransition
pub use Rattle.run_schedules.specs.Schedules.Views as SchedulesViews
pub use Rattle.run_schedules.specs.Schedules.Waiting as SchedulesWaiting
pub use Rattle.run_schedules.specs.declared as RunsDeclared
