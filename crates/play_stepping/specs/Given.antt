-- The words of the crates below, given on to the crates above: these list this crate in place of those.
pub use Rattle.owner_whole.specs.Given.CallersOverAll
pub use Rattle.owner_whole.specs.Given.CallersRooms
pub use Rattle.owner_whole.specs.Given.CallersRows
pub use Rattle.owner_whole.specs.Given.CallersTogether
pub use Rattle.owner_whole.specs.Given.PointsSteps
pub use Rattle.owner_whole.specs.Given.ResizeDeclared
pub use Rattle.owner_whole.specs.Given.ResizeNewMap
pub use Rattle.papaya_raw.specs.Given.ReservesDeclared
pub use Rattle.papaya_raw.specs.Given.SweepsSweepPoints
pub use Rattle.papaya_raw.specs.Machine as RawMachine
pub use Rattle.papaya_raw.specs.declared as RawDeclared
pub use Rattle.play_scheduler.specs.AllWorks as SchedulerAllWorks
pub use Rattle.play_scheduler.specs.Back as SchedulerBack
pub use Rattle.play_scheduler.specs.First as SchedulerFirst
pub use Rattle.play_scheduler.specs.Given.LoggedBack
pub use Rattle.play_scheduler.specs.Given.LoggedCalling
pub use Rattle.play_scheduler.specs.Given.LoggedDeclared
pub use Rattle.play_scheduler.specs.Given.LoggedEnds
pub use Rattle.play_scheduler.specs.Given.LoggedGoes
pub use Rattle.play_scheduler.specs.Given.LoggedMakings
pub use Rattle.play_scheduler.specs.Given.LoggedShown
pub use Rattle.play_scheduler.specs.Given.ReclaimsLeft
pub use Rattle.play_scheduler.specs.Given.RemainsRemains
pub use Rattle.play_scheduler.specs.Given.RuleChart
pub use Rattle.play_scheduler.specs.Given.ShedsWaits
pub use Rattle.play_scheduler.specs.KeptOut as SchedulerKeptOut
pub use Rattle.play_scheduler.specs.Mapping as SchedulerMapping
pub use Rattle.play_scheduler.specs.Played as SchedulerPlayed
pub use Rattle.play_scheduler.specs.Quiet as SchedulerQuiet
pub use Rattle.play_scheduler.specs.Reclaiming as SchedulerReclaiming
pub use Rattle.play_scheduler.specs.Works as SchedulerWorks
pub use Rattle.play_scheduler.specs.contracts as SchedulerContracts
pub use Rattle.play_scheduler.specs.declared as SchedulerDeclared
pub use Rattle.run_executor.specs.Executing.Ending as ExecutorEnding
pub use Rattle.run_executor.specs.Executing.IsThere as ExecutorIsThere
pub use Rattle.run_executor.specs.Executing.Making as ExecutorMaking
pub use Rattle.run_executor.specs.Executing.MakingBegins as ExecutorMakingBegins
pub use Rattle.run_executor.specs.Executing.OnSlots as ExecutorOnSlots
pub use Rattle.run_executor.specs.Executing.Replying as ExecutorReplying
pub use Rattle.run_executor.specs.Given.ChangesChanges
pub use Rattle.run_executor.specs.Given.HandsAsked
pub use Rattle.run_executor.specs.Given.MomentsEndings
pub use Rattle.run_executor.specs.Given.MomentsNumbers
pub use Rattle.run_executor.specs.Given.MomentsWhole
pub use Rattle.run_executor.specs.Given.MomentsWholeEnds
pub use Rattle.run_executor.specs.Given.SpotsUnreclaimed
pub use Rattle.run_executor.specs.Named.Machines as NamedMachines
pub use Rattle.run_executor.specs.Named.Places as NamedPlaces
pub use Rattle.run_executor.specs.Named.Roll as NamedRoll
pub use Rattle.run_executor.specs.Named.Seen as NamedSeen
pub use Rattle.run_executor.specs.Named.Telling as NamedTelling
pub use Rattle.run_executor.specs.ReclaimsAll.Reclaiming as ReclaimingReclaiming
pub use Rattle.run_executor.specs.contracts as ExecutorContracts
pub use Rattle.run_executor.specs.declared as ExecutorDeclared
pub use Rattle.run_sweeps.specs.Given.Ends
pub use Rattle.run_sweeps.specs.Given.PurposesPurposes
pub use Rattle.run_sweeps.specs.Needs.Firsts as NeedsFirsts
pub use Rattle.run_sweeps.specs.Needs.Makings as NeedsMakings
pub use Rattle.run_sweeps.specs.Needs.Needs as NeedsNeeds
pub use Rattle.run_sweeps.specs.Purposes.Kept as PurposesKept
pub use Rattle.run_sweeps.specs.Purposes.Swept as PurposesSwept
pub use Rattle.run_sweeps.specs.Says
pub use Rattle.seize.specs.ReclaimAll as SeizeReclaimAll
pub use Rattle.seize.specs.Sequence as SeizeSequence
pub use Rattle.seize.specs.WaitingSets as SeizeWaitingSets
pub use Rattle.seize.specs.World as SeizeWorld
pub use Rattle.seize.specs.declared as SeizeDeclared
