-- The words of the crates below, given on to the crates above: these list this crate in place of those.
pub use Rattle.papaya_raw.specs.Call as RawCall
pub use Rattle.papaya_raw.specs.CallAsks as RawCallAsks
pub use Rattle.papaya_raw.specs.CallFills as RawCallFills
pub use Rattle.papaya_raw.specs.CallPoints as RawCallPoints
pub use Rattle.papaya_raw.specs.Given.ReservesDeclared
pub use Rattle.papaya_raw.specs.Given.ReservesReserve
pub use Rattle.papaya_raw.specs.Given.SweepsSweep
pub use Rattle.papaya_raw.specs.Given.SweepsSweepPoints
pub use Rattle.papaya_raw.specs.Machine as RawMachine
pub use Rattle.papaya_raw.specs.Progress as RawProgress
pub use Rattle.papaya_raw.specs.Replies as RawReplies
pub use Rattle.papaya_raw.specs.declared as RawDeclared
pub use Rattle.run_places.specs.Changes.Changes as ChangesChanges
pub use Rattle.run_places.specs.Changes.Had as ChangesHad
pub use Rattle.run_places.specs.Changes.Histories as ChangesHistories
pub use Rattle.run_places.specs.Changes.Kept as ChangesKept
pub use Rattle.run_places.specs.Given.CallersAsked
pub use Rattle.run_places.specs.Given.CallersKind
pub use Rattle.run_places.specs.Given.CallersOverAll
pub use Rattle.run_places.specs.Given.CallersPairs
pub use Rattle.run_places.specs.Given.CallersRooms
pub use Rattle.run_places.specs.Given.CallersRows
pub use Rattle.run_places.specs.Given.CallersSights
pub use Rattle.run_places.specs.Given.CallersTogether
pub use Rattle.run_places.specs.Given.EffectsDeclared
pub use Rattle.run_places.specs.Given.EffectsEffects
pub use Rattle.run_places.specs.Given.EffectsKnown
pub use Rattle.run_places.specs.Given.FinishesEndings
pub use Rattle.run_places.specs.Given.FinishesFactsEnds
pub use Rattle.run_places.specs.Given.FinishesMachines
pub use Rattle.run_places.specs.Given.FinishesMakings
pub use Rattle.run_places.specs.Given.FinishesMaps
pub use Rattle.run_places.specs.Given.FinishesOrders
pub use Rattle.run_places.specs.Given.FinishesSweeps
pub use Rattle.run_places.specs.Given.FollowsBlocks
pub use Rattle.run_places.specs.Given.FollowsCalling
pub use Rattle.run_places.specs.Given.FollowsCalls
pub use Rattle.run_places.specs.Given.FollowsFinds
pub use Rattle.run_places.specs.Given.FollowsMaps
pub use Rattle.run_places.specs.Given.FollowsShows
pub use Rattle.run_places.specs.Given.FollowsSteps
pub use Rattle.run_places.specs.Given.LateCovers
pub use Rattle.run_places.specs.Given.LateCoversSweeps
pub use Rattle.run_places.specs.Given.LateEnds
pub use Rattle.run_places.specs.Given.LateFactsReserves
pub use Rattle.run_places.specs.Given.LateFactsSweeps
pub use Rattle.run_places.specs.Given.LateFaults
pub use Rattle.run_places.specs.Given.LateKinds
pub use Rattle.run_places.specs.Given.LateLateCalls
pub use Rattle.run_places.specs.Given.LateLateCopies
pub use Rattle.run_places.specs.Given.LateLateReserves
pub use Rattle.run_places.specs.Given.LateLeft
pub use Rattle.run_places.specs.Given.LateToldReserves
pub use Rattle.run_places.specs.Given.LateToldSweeps
pub use Rattle.run_places.specs.Given.OthersAfter
pub use Rattle.run_places.specs.Given.OthersElsewhere
pub use Rattle.run_places.specs.Given.OthersEndings
pub use Rattle.run_places.specs.Given.OthersGone
pub use Rattle.run_places.specs.Given.OthersMakings
pub use Rattle.run_places.specs.Given.OthersRows
pub use Rattle.run_places.specs.Given.OthersWalks
pub use Rattle.run_places.specs.Given.PointsFactsCalls
pub use Rattle.run_places.specs.Given.PointsFactsCopies
pub use Rattle.run_places.specs.Given.PointsFactsCopiesBlocking
pub use Rattle.run_places.specs.Given.PointsFactsDisposes
pub use Rattle.run_places.specs.Given.PointsFactsTables
pub use Rattle.run_places.specs.Given.PointsSteps
pub use Rattle.run_places.specs.Given.PointsTold
pub use Rattle.run_places.specs.Given.ReclaimsReclaims
pub use Rattle.run_places.specs.Given.ReclaimsSlots
pub use Rattle.run_places.specs.Given.RuleChart
pub use Rattle.run_places.specs.Given.RuleInWorld
pub use Rattle.run_places.specs.Given.RuleLasts
pub use Rattle.run_places.specs.Given.RuleMaps
pub use Rattle.run_places.specs.Given.RuleMoments
pub use Rattle.run_places.specs.Given.RuleMoves
pub use Rattle.run_places.specs.Given.RuleRule
pub use Rattle.run_places.specs.Given.RuleWords
pub use Rattle.run_places.specs.Given.ScenesBeginning
pub use Rattle.run_places.specs.Given.ScenesContracts
pub use Rattle.run_places.specs.Given.ScenesDeclared
pub use Rattle.run_places.specs.Given.ScenesEnding
pub use Rattle.run_places.specs.Given.ScenesHeld
pub use Rattle.run_places.specs.Given.ScenesMaking
pub use Rattle.run_places.specs.Given.ScenesOnSlots
pub use Rattle.run_places.specs.Given.ScenesReclaiming
pub use Rattle.run_places.specs.Given.ScenesReplying
pub use Rattle.run_places.specs.Given.ScenesRows
pub use Rattle.run_places.specs.Given.ScenesScene
pub use Rattle.run_places.specs.Given.ScenesStepping
pub use Rattle.run_places.specs.Given.SeizeAloneAlone
pub use Rattle.run_places.specs.Given.SeizeQuietSlots
pub use Rattle.run_places.specs.Given.SeizeReclaimsAllReclaimed
pub use Rattle.run_places.specs.Given.SeizeReclaimsRoots
pub use Rattle.run_places.specs.Given.SeizeSetsReclaims
pub use Rattle.run_places.specs.Given.SeizeWaitingChanges
pub use Rattle.run_places.specs.Given.SeizeWaitingHanded
pub use Rattle.run_places.specs.Given.SeizeWaitingHeld
pub use Rattle.run_places.specs.Given.TellerTells
pub use Rattle.run_places.specs.Given.TellsSeen
pub use Rattle.run_places.specs.Given.TellsTells
pub use Rattle.run_places.specs.Hands.Asked as HandsAsked
pub use Rattle.run_places.specs.Hands.Calling as HandsCalling
pub use Rattle.run_places.specs.Hands.Hands as HandsHands
pub use Rattle.run_places.specs.Hands.Rows as HandsRows
pub use Rattle.run_places.specs.Moments.Endings as MomentsEndings
pub use Rattle.run_places.specs.Moments.Numbers as MomentsNumbers
pub use Rattle.run_places.specs.Moments.OnSlots as MomentsOnSlots
pub use Rattle.run_places.specs.Moments.Whole as MomentsWhole
pub use Rattle.run_places.specs.Moments.WholeEnds as MomentsWholeEnds
pub use Rattle.run_places.specs.Spots.Deferred as SpotsDeferred
pub use Rattle.run_places.specs.Spots.OnSlots as SpotsOnSlots
pub use Rattle.run_places.specs.Spots.Placed as SpotsPlaced
pub use Rattle.run_places.specs.Spots.Spots as SpotsSpots
pub use Rattle.run_places.specs.Spots.Unreclaimed as SpotsUnreclaimed
pub use Rattle.run_schedules.specs.Runs.LifeCycle as RunsLifeCycle
pub use Rattle.run_schedules.specs.Runs.Log as RunsLog
pub use Rattle.run_schedules.specs.Runs.Pairs as RunsPairs
pub use Rattle.run_schedules.specs.Runs.Present as RunsPresent
pub use Rattle.run_schedules.specs.Runs.Runs as RunsRuns
pub use Rattle.run_schedules.specs.Runs.Same as RunsSame
pub use Rattle.run_schedules.specs.Schedules.After as SchedulesAfter
pub use Rattle.run_schedules.specs.Schedules.Beginning as SchedulesBeginning
pub use Rattle.run_schedules.specs.Schedules.Coming as SchedulesComing
pub use Rattle.run_schedules.specs.Schedules.Counts as SchedulesCounts
pub use Rattle.run_schedules.specs.Schedules.Effects as SchedulesEffects
pub use Rattle.run_schedules.specs.Schedules.Entry as SchedulesEntry
pub use Rattle.run_schedules.specs.Schedules.Growing as SchedulesGrowing
pub use Rattle.run_schedules.specs.Schedules.Handing as SchedulesHanding
pub use Rattle.run_schedules.specs.Schedules.InTurn as SchedulesInTurn
pub use Rattle.run_schedules.specs.Schedules.InUse as SchedulesInUse
pub use Rattle.run_schedules.specs.Schedules.Linearizable as SchedulesLinearizable
pub use Rattle.run_schedules.specs.Schedules.Lists as SchedulesLists
pub use Rattle.run_schedules.specs.Schedules.Lives as SchedulesLives
pub use Rattle.run_schedules.specs.Schedules.Model as SchedulesModel
pub use Rattle.run_schedules.specs.Schedules.Moment as SchedulesMoment
pub use Rattle.run_schedules.specs.Schedules.Reclaims as SchedulesReclaims
pub use Rattle.run_schedules.specs.Schedules.Runs as SchedulesRuns
pub use Rattle.run_schedules.specs.Schedules.Sequential as SchedulesSequential
pub use Rattle.run_schedules.specs.Schedules.Steps as SchedulesSteps
pub use Rattle.run_schedules.specs.Schedules.Sweeps as SchedulesSweeps
pub use Rattle.run_schedules.specs.Schedules.Terms as SchedulesTerms
pub use Rattle.run_schedules.specs.Schedules.Things as SchedulesThings
pub use Rattle.run_schedules.specs.Schedules.Transition as SchedulesTransition
pub use Rattle.run_schedules.specs.Schedules.Tries as SchedulesTries
pub use Rattle.run_schedules.specs.Schedules.Views as SchedulesViews
pub use Rattle.run_schedules.specs.declared as RunsDeclared
pub use Rattle.seize.specs.Defer as SeizeDefer
pub use Rattle.seize.specs.Further as SeizeFurther
pub use Rattle.seize.specs.Law as SeizeLaw
pub use Rattle.seize.specs.Settle as SeizeSettle
pub use Rattle.seize.specs.World as SeizeWorld
pub use Rattle.seize.specs.declared as SeizeDeclared
pub use Rattle.seize_words.specs.OneMemory.Mem as SeizeWordsMem
pub use Rattle.seize_words.specs.OneMemory.Op as SeizeWordsOp
pub use Rattle.seize_words.specs.OneMemory.Plan as SeizeWordsPlan
pub use Rattle.seize_words.specs.OneMemory.Word as SeizeWordsWord
pub use Rattle.seize_words.specs.declared as SeizeWordsDeclared
