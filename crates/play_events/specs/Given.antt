-- The words of the crates below, given on to the crates above: these list this crate in place of those.
pub use Rattle.play_lists.specs.Agrees.Fresh as AgreesFresh
pub use Rattle.play_lists.specs.Drives.Executors as DrivesExecutors
pub use Rattle.play_lists.specs.Given.ActsActs
pub use Rattle.play_lists.specs.Given.ActsAsSteps
pub use Rattle.play_lists.specs.Given.ActsDoings
pub use Rattle.play_lists.specs.Given.ActsLeads
pub use Rattle.play_lists.specs.Given.ActsLists
pub use Rattle.play_lists.specs.Given.FindsLittle
pub use Rattle.play_lists.specs.Given.FindsTornDown
pub use Rattle.play_lists.specs.Given.FindsWaiting
pub use Rattle.play_lists.specs.Given.FinishesMachines
pub use Rattle.play_lists.specs.Given.FinishesMakings
pub use Rattle.play_lists.specs.Given.FinishesMaps
pub use Rattle.play_lists.specs.Given.FollowsBlocks
pub use Rattle.play_lists.specs.Given.ModelsTurns
pub use Rattle.play_lists.specs.Given.ScenesContracts
pub use Rattle.play_lists.specs.Given.ScenesDeclared
pub use Rattle.play_lists.specs.Given.ScenesOnSlots
pub use Rattle.play_lists.specs.Given.ScenesReplying
pub use Rattle.play_lists.specs.Given.ScenesRows
pub use Rattle.play_lists.specs.Given.ScenesScene
pub use Rattle.play_lists.specs.Given.ScenesStepping
pub use Rattle.play_lists.specs.Grouped.ByActs as GroupedByActs
pub use Rattle.play_lists.specs.Grouped.Called as GroupedCalled
pub use Rattle.play_lists.specs.Grouped.Grouping as GroupedGrouping
pub use Rattle.play_lists.specs.Grouped.Reach as GroupedReach
pub use Rattle.play_lists.specs.Played.Play as PlayedPlay
pub use Rattle.play_lists.specs.Played.Reached as PlayedReached
pub use Rattle.play_stepping.specs.EventSteps.Stepping as SteppingStepping
pub use Rattle.play_stepping.specs.Given.CallersRows
pub use Rattle.play_stepping.specs.Given.CallersTogether
pub use Rattle.play_stepping.specs.Given.ExecutorContracts
pub use Rattle.play_stepping.specs.Given.ExecutorDeclared
pub use Rattle.play_stepping.specs.Given.ExecutorIsThere
pub use Rattle.play_stepping.specs.Given.ExecutorOnSlots
pub use Rattle.play_stepping.specs.Given.ExecutorReplying
pub use Rattle.play_stepping.specs.Given.HandsAsked
pub use Rattle.play_stepping.specs.Given.LoggedBack
pub use Rattle.play_stepping.specs.Given.LoggedDeclared
pub use Rattle.play_stepping.specs.Given.LoggedEnds
pub use Rattle.play_stepping.specs.Given.LoggedGoes
pub use Rattle.play_stepping.specs.Given.LoggedMakings
pub use Rattle.play_stepping.specs.Given.LoggedShown
pub use Rattle.play_stepping.specs.Given.MomentsNumbers
pub use Rattle.play_stepping.specs.Given.NamedMachines
pub use Rattle.play_stepping.specs.Given.NamedPlaces
pub use Rattle.play_stepping.specs.Given.NamedRoll
pub use Rattle.play_stepping.specs.Given.NamedSeen
pub use Rattle.play_stepping.specs.Given.NamedTelling
pub use Rattle.play_stepping.specs.Given.PointsSteps
pub use Rattle.play_stepping.specs.Given.ReclaimingReclaiming
pub use Rattle.play_stepping.specs.Given.Says
pub use Rattle.play_stepping.specs.Given.SchedulerAllWorks
pub use Rattle.play_stepping.specs.Given.SchedulerBack
pub use Rattle.play_stepping.specs.Given.SchedulerContracts
pub use Rattle.play_stepping.specs.Given.SchedulerDeclared
pub use Rattle.play_stepping.specs.Given.SchedulerFirst
pub use Rattle.play_stepping.specs.Given.SchedulerKeptOut
pub use Rattle.play_stepping.specs.Given.SchedulerMapping
pub use Rattle.play_stepping.specs.Given.SchedulerPlayed
pub use Rattle.play_stepping.specs.Given.SchedulerQuiet
pub use Rattle.play_stepping.specs.Given.SchedulerReclaiming
pub use Rattle.play_stepping.specs.Given.SchedulerWorks
pub use Rattle.play_stepping.specs.Given.SpotsUnreclaimed
pub use Rattle.run_legal.specs.Given.LoggedChoosing
pub use Rattle.run_legal.specs.Given.LoggedContracts
pub use Rattle.run_legal.specs.Given.RowsRows
pub use Rattle.seize_acts.specs.Acts.Answers as SeizeActsAnswers
