-- The words of the crates below, given on to the crates above: these list this crate in place of those.
pub use Rattle.many_maps.specs.Endings as FinishesEndings
pub use Rattle.many_maps.specs.FactsEnds as FinishesFactsEnds
pub use Rattle.many_maps.specs.Given.CallersAsked
pub use Rattle.many_maps.specs.Given.CallersAskedOnce
pub use Rattle.many_maps.specs.Given.CallersClaims
pub use Rattle.many_maps.specs.Given.CallersKept
pub use Rattle.many_maps.specs.Given.CallersKind
pub use Rattle.many_maps.specs.Given.CallersOverAll
pub use Rattle.many_maps.specs.Given.CallersPairs
pub use Rattle.many_maps.specs.Given.CallersRooms
pub use Rattle.many_maps.specs.Given.CallersRows
pub use Rattle.many_maps.specs.Given.CallersSights
pub use Rattle.many_maps.specs.Given.CallersSince
pub use Rattle.many_maps.specs.Given.CallersTogether
pub use Rattle.many_maps.specs.Given.LateCovers
pub use Rattle.many_maps.specs.Given.LateCoversSweeps
pub use Rattle.many_maps.specs.Given.LateEnds
pub use Rattle.many_maps.specs.Given.LateFactsReserves
pub use Rattle.many_maps.specs.Given.LateFactsSweeps
pub use Rattle.many_maps.specs.Given.LateFaults
pub use Rattle.many_maps.specs.Given.LateKinds
pub use Rattle.many_maps.specs.Given.LateLateCalls
pub use Rattle.many_maps.specs.Given.LateLateCopies
pub use Rattle.many_maps.specs.Given.LateLateLooks
pub use Rattle.many_maps.specs.Given.LateLateReserves
pub use Rattle.many_maps.specs.Given.LateLeft
pub use Rattle.many_maps.specs.Given.LateToldReserves
pub use Rattle.many_maps.specs.Given.LateToldSweeps
pub use Rattle.many_maps.specs.Given.PointsFactsCalls
pub use Rattle.many_maps.specs.Given.PointsFactsCopies
pub use Rattle.many_maps.specs.Given.PointsFactsCopiesBlocking
pub use Rattle.many_maps.specs.Given.PointsFactsDisposes
pub use Rattle.many_maps.specs.Given.PointsFactsLooks
pub use Rattle.many_maps.specs.Given.PointsFactsTables
pub use Rattle.many_maps.specs.Given.PointsSteps
pub use Rattle.many_maps.specs.Given.PointsTold
pub use Rattle.many_maps.specs.Given.RawAnswers
pub use Rattle.many_maps.specs.Given.RuleLasts
pub use Rattle.many_maps.specs.Given.RuleMoves
pub use Rattle.many_maps.specs.Given.TablesCounts
pub use Rattle.many_maps.specs.Given.TablesLengths
pub use Rattle.many_maps.specs.Given.TablesMarks
pub use Rattle.many_maps.specs.Machines as FinishesMachines
pub use Rattle.many_maps.specs.Makings as FinishesMakings
pub use Rattle.many_maps.specs.Maps as FinishesMaps
pub use Rattle.many_maps.specs.Orders as FinishesOrders
pub use Rattle.many_maps.specs.Sweeps as FinishesSweeps
pub use Rattle.run_effects.specs.Effects.Effects as EffectsEffects
pub use Rattle.run_effects.specs.Effects.Known as EffectsKnown
pub use Rattle.run_effects.specs.Given.RawCall
pub use Rattle.run_effects.specs.Given.RawCallAsks
pub use Rattle.run_effects.specs.Given.RawCallFills
pub use Rattle.run_effects.specs.Given.RawCallPoints
pub use Rattle.run_effects.specs.Given.RawDeclared
pub use Rattle.run_effects.specs.Given.RawEndMap
pub use Rattle.run_effects.specs.Given.RawMachine
pub use Rattle.run_effects.specs.Given.RawProgress
pub use Rattle.run_effects.specs.Given.RawReplies
pub use Rattle.run_effects.specs.Given.ReservesDeclared
pub use Rattle.run_effects.specs.Given.ReservesReserve
pub use Rattle.run_effects.specs.Given.ResizeCopier
pub use Rattle.run_effects.specs.Given.ResizeCopierClaims
pub use Rattle.run_effects.specs.Given.ResizeCopierCounts
pub use Rattle.run_effects.specs.Given.ResizeCopierFurther
pub use Rattle.run_effects.specs.Given.ResizeCopierMarks
pub use Rattle.run_effects.specs.Given.ResizeCopierPlaces
pub use Rattle.run_effects.specs.Given.ResizeCopierPromotes
pub use Rattle.run_effects.specs.Given.ResizeCopierStates
pub use Rattle.run_effects.specs.Given.ResizeDeclared
pub use Rattle.run_effects.specs.Given.ResizeDispose
pub use Rattle.run_effects.specs.Given.ResizeLookup
pub use Rattle.run_effects.specs.Given.ResizeNewMap
pub use Rattle.run_effects.specs.Given.ResizeNewTable
pub use Rattle.run_effects.specs.Given.ResizeSum
pub use Rattle.run_effects.specs.Given.RuleChart
pub use Rattle.run_effects.specs.Given.RuleInWorld
pub use Rattle.run_effects.specs.Given.RuleLinks
pub use Rattle.run_effects.specs.Given.RuleMaps
pub use Rattle.run_effects.specs.Given.RuleMoments
pub use Rattle.run_effects.specs.Given.RuleRule
pub use Rattle.run_effects.specs.Given.RuleWords
pub use Rattle.run_effects.specs.Given.RunsDeclared
pub use Rattle.run_effects.specs.Given.RunsLifeCycle
pub use Rattle.run_effects.specs.Given.RunsLog
pub use Rattle.run_effects.specs.Given.RunsPresent
pub use Rattle.run_effects.specs.Given.RunsSame
pub use Rattle.run_effects.specs.Given.SchedulesAfter
pub use Rattle.run_effects.specs.Given.SchedulesBeginning
pub use Rattle.run_effects.specs.Given.SchedulesComing
pub use Rattle.run_effects.specs.Given.SchedulesEffects
pub use Rattle.run_effects.specs.Given.SchedulesEntry
pub use Rattle.run_effects.specs.Given.SchedulesGrowing
pub use Rattle.run_effects.specs.Given.SchedulesHanding
pub use Rattle.run_effects.specs.Given.SchedulesInUse
pub use Rattle.run_effects.specs.Given.SchedulesLinearizable
pub use Rattle.run_effects.specs.Given.SchedulesLists
pub use Rattle.run_effects.specs.Given.SchedulesLives
pub use Rattle.run_effects.specs.Given.SchedulesModel
pub use Rattle.run_effects.specs.Given.SchedulesMoment
pub use Rattle.run_effects.specs.Given.SchedulesReclaims
pub use Rattle.run_effects.specs.Given.SchedulesSequential
pub use Rattle.run_effects.specs.Given.SchedulesSteps
pub use Rattle.run_effects.specs.Given.SchedulesTerms
pub use Rattle.run_effects.specs.Given.SchedulesThings
pub use Rattle.run_effects.specs.Given.SchedulesTransition
pub use Rattle.run_effects.specs.Given.SchedulesTries
pub use Rattle.run_effects.specs.Given.SchedulesViews
pub use Rattle.run_effects.specs.Given.SeizeWaitingChanges
pub use Rattle.run_effects.specs.Given.SeizeWaitingHanded
pub use Rattle.run_effects.specs.Given.SeizeWaitingHeld
pub use Rattle.run_effects.specs.Given.SweepsSweep
pub use Rattle.run_effects.specs.Given.SweepsSweepPoints
pub use Rattle.run_effects.specs.Given.TablesChunks
pub use Rattle.run_effects.specs.Given.TablesDeclared
pub use Rattle.run_effects.specs.Given.TablesFinding
pub use Rattle.run_effects.specs.Given.TablesNodes
pub use Rattle.run_effects.specs.Given.TablesPowers
pub use Rattle.run_effects.specs.Given.TablesTablePlaces
pub use Rattle.run_effects.specs.Given.TablesTrials
pub use Rattle.run_effects.specs.ReportingMemory.Changed as TellerChanged
pub use Rattle.run_effects.specs.ReportingMemory.Tells as TellerTells
pub use Rattle.run_effects.specs.Tells.Seen as TellsSeen
pub use Rattle.run_effects.specs.Tells.Tells as TellsTells
pub use Rattle.run_effects.specs.declared as EffectsDeclared
pub use Rattle.seize.specs.Defer as SeizeDefer
pub use Rattle.seize.specs.Enter as SeizeEnter
pub use Rattle.seize.specs.Further as SeizeFurther
pub use Rattle.seize.specs.Law as SeizeLaw
pub use Rattle.seize.specs.Leave as SeizeLeave
pub use Rattle.seize.specs.ReclaimAll as SeizeReclaimAll
pub use Rattle.seize.specs.Register as SeizeRegister
pub use Rattle.seize.specs.Sequence as SeizeSequence
pub use Rattle.seize.specs.Settle as SeizeSettle
pub use Rattle.seize.specs.WaitingSets as SeizeWaitingSets
pub use Rattle.seize.specs.World as SeizeWorld
pub use Rattle.seize.specs.declared as SeizeDeclared
pub use Rattle.seize_acts.specs.Acts.Waits as SeizeActsWaits
pub use Rattle.seize_acts.specs.Given.SeizeAloneAlone
pub use Rattle.seize_acts.specs.Given.SeizeEndsHolders
pub use Rattle.seize_acts.specs.Given.SeizeSetsReclaims
pub use Rattle.seize_acts.specs.Quiet.Slots as SeizeQuietSlots
pub use Rattle.seize_acts.specs.Reclaims.AllReclaimed as SeizeReclaimsAllReclaimed
pub use Rattle.seize_acts.specs.Reclaims.Roots as SeizeReclaimsRoots
pub use Rattle.seize_words.specs.OneMemory.Mem as SeizeWordsMem
pub use Rattle.seize_words.specs.OneMemory.Op as SeizeWordsOp
pub use Rattle.seize_words.specs.OneMemory.Place as SeizeWordsPlace
pub use Rattle.seize_words.specs.OneMemory.Plan as SeizeWordsPlan
pub use Rattle.seize_words.specs.OneMemory.SlotWords as SeizeWordsSlotWords
pub use Rattle.seize_words.specs.OneMemory.Word as SeizeWordsWord
pub use Rattle.seize_words.specs.declared as SeizeWordsDeclared
