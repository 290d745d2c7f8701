-- The words of the crates below, given on to the crates above: these list this crate in place of those.
pub use Rattle.run_shows.specs.Follows.Blocks as FollowsBlocks
pub use Rattle.run_shows.specs.Follows.Calling as FollowsCalling
pub use Rattle.run_shows.specs.Follows.Calls as FollowsCalls
pub use Rattle.run_shows.specs.Follows.Finds as FollowsFinds
pub use Rattle.run_shows.specs.Follows.Maps as FollowsMaps
pub use Rattle.run_shows.specs.Follows.Shows as FollowsShows
pub use Rattle.run_shows.specs.Follows.Steps as FollowsSteps
pub use Rattle.run_shows.specs.Given.CallersAsked
pub use Rattle.run_shows.specs.Given.CallersAskedOnce
pub use Rattle.run_shows.specs.Given.CallersClaims
pub use Rattle.run_shows.specs.Given.CallersKind
pub use Rattle.run_shows.specs.Given.CallersOverAll
pub use Rattle.run_shows.specs.Given.CallersPairs
pub use Rattle.run_shows.specs.Given.CallersRooms
pub use Rattle.run_shows.specs.Given.CallersRows
pub use Rattle.run_shows.specs.Given.CallersSights
pub use Rattle.run_shows.specs.Given.CallersSince
pub use Rattle.run_shows.specs.Given.CallersTogether
pub use Rattle.run_shows.specs.Given.EffectsDeclared
pub use Rattle.run_shows.specs.Given.EffectsEffects
pub use Rattle.run_shows.specs.Given.EffectsKnown
pub use Rattle.run_shows.specs.Given.FinishesEndings
pub use Rattle.run_shows.specs.Given.FinishesFactsEnds
pub use Rattle.run_shows.specs.Given.FinishesMachines
pub use Rattle.run_shows.specs.Given.FinishesMakings
pub use Rattle.run_shows.specs.Given.FinishesMaps
pub use Rattle.run_shows.specs.Given.FinishesOrders
pub use Rattle.run_shows.specs.Given.FinishesSweeps
pub use Rattle.run_shows.specs.Given.LateCovers
pub use Rattle.run_shows.specs.Given.LateCoversSweeps
pub use Rattle.run_shows.specs.Given.LateEnds
pub use Rattle.run_shows.specs.Given.LateFactsReserves
pub use Rattle.run_shows.specs.Given.LateFactsSweeps
pub use Rattle.run_shows.specs.Given.LateFaults
pub use Rattle.run_shows.specs.Given.LateKinds
pub use Rattle.run_shows.specs.Given.LateLateCalls
pub use Rattle.run_shows.specs.Given.LateLateCopies
pub use Rattle.run_shows.specs.Given.LateLateLooks
pub use Rattle.run_shows.specs.Given.LateLateReserves
pub use Rattle.run_shows.specs.Given.LateLeft
pub use Rattle.run_shows.specs.Given.LateToldReserves
pub use Rattle.run_shows.specs.Given.LateToldSweeps
pub use Rattle.run_shows.specs.Given.PointsFactsCalls
pub use Rattle.run_shows.specs.Given.PointsFactsCopies
pub use Rattle.run_shows.specs.Given.PointsFactsCopiesBlocking
pub use Rattle.run_shows.specs.Given.PointsFactsDisposes
pub use Rattle.run_shows.specs.Given.PointsFactsLooks
pub use Rattle.run_shows.specs.Given.PointsFactsTables
pub use Rattle.run_shows.specs.Given.PointsSteps
pub use Rattle.run_shows.specs.Given.PointsTold
pub use Rattle.run_shows.specs.Given.RawAnswers
pub use Rattle.run_shows.specs.Given.RawCall
pub use Rattle.run_shows.specs.Given.RawCallAsks
pub use Rattle.run_shows.specs.Given.RawCallFills
pub use Rattle.run_shows.specs.Given.RawCallPoints
pub use Rattle.run_shows.specs.Given.RawDeclared
pub use Rattle.run_shows.specs.Given.RawEndMap
pub use Rattle.run_shows.specs.Given.RawMachine
pub use Rattle.run_shows.specs.Given.RawProgress
pub use Rattle.run_shows.specs.Given.RawReplies
pub use Rattle.run_shows.specs.Given.ReservesDeclared
pub use Rattle.run_shows.specs.Given.ReservesReserve
pub use Rattle.run_shows.specs.Given.ResizeCopier
pub use Rattle.run_shows.specs.Given.ResizeCopierFurther
pub use Rattle.run_shows.specs.Given.ResizeCopierPromotes
pub use Rattle.run_shows.specs.Given.ResizeCopierStates
pub use Rattle.run_shows.specs.Given.ResizeDeclared
pub use Rattle.run_shows.specs.Given.ResizeDispose
pub use Rattle.run_shows.specs.Given.ResizeLookup
pub use Rattle.run_shows.specs.Given.ResizeNewMap
pub use Rattle.run_shows.specs.Given.ResizeNewTable
pub use Rattle.run_shows.specs.Given.ResizeSum
pub use Rattle.run_shows.specs.Given.RuleChart
pub use Rattle.run_shows.specs.Given.RuleInWorld
pub use Rattle.run_shows.specs.Given.RuleLasts
pub use Rattle.run_shows.specs.Given.RuleLinks
pub use Rattle.run_shows.specs.Given.RuleMaps
pub use Rattle.run_shows.specs.Given.RuleMoments
pub use Rattle.run_shows.specs.Given.RuleMoves
pub use Rattle.run_shows.specs.Given.RuleRule
pub use Rattle.run_shows.specs.Given.RuleWords
pub use Rattle.run_shows.specs.Given.RunsDeclared
pub use Rattle.run_shows.specs.Given.RunsLifeCycle
pub use Rattle.run_shows.specs.Given.RunsLog
pub use Rattle.run_shows.specs.Given.RunsPresent
pub use Rattle.run_shows.specs.Given.RunsSame
pub use Rattle.run_shows.specs.Given.SchedulesAfter
pub use Rattle.run_shows.specs.Given.SchedulesBeginning
pub use Rattle.run_shows.specs.Given.SchedulesComing
pub use Rattle.run_shows.specs.Given.SchedulesEffects
pub use Rattle.run_shows.specs.Given.SchedulesEntry
pub use Rattle.run_shows.specs.Given.SchedulesGrowing
pub use Rattle.run_shows.specs.Given.SchedulesHanding
pub use Rattle.run_shows.specs.Given.SchedulesInUse
pub use Rattle.run_shows.specs.Given.SchedulesLinearizable
pub use Rattle.run_shows.specs.Given.SchedulesLists
pub use Rattle.run_shows.specs.Given.SchedulesLives
pub use Rattle.run_shows.specs.Given.SchedulesModel
pub use Rattle.run_shows.specs.Given.SchedulesMoment
pub use Rattle.run_shows.specs.Given.SchedulesReclaims
pub use Rattle.run_shows.specs.Given.SchedulesSequential
pub use Rattle.run_shows.specs.Given.SchedulesSteps
pub use Rattle.run_shows.specs.Given.SchedulesTerms
pub use Rattle.run_shows.specs.Given.SchedulesThings
pub use Rattle.run_shows.specs.Given.SchedulesTransition
pub use Rattle.run_shows.specs.Given.SchedulesViews
pub use Rattle.run_shows.specs.Given.SeizeAloneAlone
pub use Rattle.run_shows.specs.Given.SeizeDeclared
pub use Rattle.run_shows.specs.Given.SeizeDefer
pub use Rattle.run_shows.specs.Given.SeizeEnter
pub use Rattle.run_shows.specs.Given.SeizeFurther
pub use Rattle.run_shows.specs.Given.SeizeLaw
pub use Rattle.run_shows.specs.Given.SeizeLeave
pub use Rattle.run_shows.specs.Given.SeizeQuietSlots
pub use Rattle.run_shows.specs.Given.SeizeReclaimsAllReclaimed
pub use Rattle.run_shows.specs.Given.SeizeReclaimsRoots
pub use Rattle.run_shows.specs.Given.SeizeRegister
pub use Rattle.run_shows.specs.Given.SeizeSequence
pub use Rattle.run_shows.specs.Given.SeizeSetsReclaims
pub use Rattle.run_shows.specs.Given.SeizeSettle
pub use Rattle.run_shows.specs.Given.SeizeWaitingChanges
pub use Rattle.run_shows.specs.Given.SeizeWaitingHanded
pub use Rattle.run_shows.specs.Given.SeizeWaitingHeld
pub use Rattle.run_shows.specs.Given.SeizeWaitingSets
pub use Rattle.run_shows.specs.Given.SeizeWordsDeclared
pub use Rattle.run_shows.specs.Given.SeizeWordsMem
pub use Rattle.run_shows.specs.Given.SeizeWordsOp
pub use Rattle.run_shows.specs.Given.SeizeWordsPlace
pub use Rattle.run_shows.specs.Given.SeizeWordsPlan
pub use Rattle.run_shows.specs.Given.SeizeWordsSlotWords
pub use Rattle.run_shows.specs.Given.SeizeWordsWord
pub use Rattle.run_shows.specs.Given.SeizeWorld
pub use Rattle.run_shows.specs.Given.SweepsSweep
pub use Rattle.run_shows.specs.Given.SweepsSweepPoints
pub use Rattle.run_shows.specs.Given.TablesChunks
pub use Rattle.run_shows.specs.Given.TablesCounts
pub use Rattle.run_shows.specs.Given.TablesDeclared
pub use Rattle.run_shows.specs.Given.TablesFinding
pub use Rattle.run_shows.specs.Given.TablesMarks
pub use Rattle.run_shows.specs.Given.TablesNodes
pub use Rattle.run_shows.specs.Given.TablesPowers
pub use Rattle.run_shows.specs.Given.TablesTablePlaces
pub use Rattle.run_shows.specs.Given.TablesTrials
pub use Rattle.run_shows.specs.Given.TellerChanged
pub use Rattle.run_shows.specs.Given.TellerTells
pub use Rattle.run_shows.specs.Given.TellsSeen
pub use Rattle.run_shows.specs.Given.TellsTells
pub use Rattle.run_shows.specs.Others.After as OthersAfter
pub use Rattle.run_shows.specs.Others.Elsewhere as OthersElsewhere
pub use Rattle.run_shows.specs.Others.Endings as OthersEndings
pub use Rattle.run_shows.specs.Others.Gone as OthersGone
pub use Rattle.run_shows.specs.Others.Makings as OthersMakings
pub use Rattle.run_shows.specs.Others.Rows as OthersRows
pub use Rattle.run_shows.specs.Others.Walks as OthersWalks
pub use Rattle.run_shows.specs.Reclaims.Left as ReclaimsLeft
pub use Rattle.run_shows.specs.Reclaims.Reclaims as ReclaimsReclaims
pub use Rattle.run_shows.specs.Reclaims.Slots as ReclaimsSlots
pub use Rattle.run_shows.specs.Scenes.Beginning as ScenesBeginning
pub use Rattle.run_shows.specs.Scenes.Ending as ScenesEnding
pub use Rattle.run_shows.specs.Scenes.Held as ScenesHeld
pub use Rattle.run_shows.specs.Scenes.Making as ScenesMaking
pub use Rattle.run_shows.specs.Scenes.OnSlots as ScenesOnSlots
pub use Rattle.run_shows.specs.Scenes.Reclaiming as ScenesReclaiming
pub use Rattle.run_shows.specs.Scenes.Replying as ScenesReplying
pub use Rattle.run_shows.specs.Scenes.Rows as ScenesRows
pub use Rattle.run_shows.specs.Scenes.Scene as ScenesScene
pub use Rattle.run_shows.specs.Scenes.Stepping as ScenesStepping
pub use Rattle.run_shows.specs.contracts as ScenesContracts
pub use Rattle.run_shows.specs.declared as ScenesDeclared
