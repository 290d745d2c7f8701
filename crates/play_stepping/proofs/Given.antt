-- What is so by the crates below, given on to the crates above: these list this crate in place of those.
pub use Rattle.owner_whole.proofs.Given.CallersTogether
pub use Rattle.owner_whole.proofs.Given.PointsLawful
pub use Rattle.owner_whole.proofs.Given.PointsMaking
pub use Rattle.play_scheduler.proofs.Begins as SchedulerBegins
pub use Rattle.play_scheduler.proofs.Busy as SchedulerBusy
pub use Rattle.play_scheduler.proofs.Chosen as SchedulerChosen
pub use Rattle.play_scheduler.proofs.Dropped as SchedulerDropped
pub use Rattle.play_scheduler.proofs.Drops as SchedulerDrops
pub use Rattle.play_scheduler.proofs.Enters as SchedulerEnters
pub use Rattle.play_scheduler.proofs.Flushes as SchedulerFlushes
pub use Rattle.play_scheduler.proofs.Given.Lists
pub use Rattle.play_scheduler.proofs.Given.LoggedCounted
pub use Rattle.play_scheduler.proofs.Given.RemainsLeads
pub use Rattle.play_scheduler.proofs.Given.RemainsLists
pub use Rattle.play_scheduler.proofs.Given.RowsFacts
pub use Rattle.play_scheduler.proofs.Given.RowsLists
pub use Rattle.play_scheduler.proofs.HeldTold as SchedulerHeldTold
pub use Rattle.play_scheduler.proofs.Here as SchedulerHere
pub use Rattle.play_scheduler.proofs.Maps as SchedulerMaps
pub use Rattle.play_scheduler.proofs.RanOn as SchedulerRanOn
pub use Rattle.play_scheduler.proofs.Refreshes as SchedulerRefreshes
pub use Rattle.play_scheduler.proofs.Replied as SchedulerReplied
pub use Rattle.play_scheduler.proofs.Rights as SchedulerRights
pub use Rattle.play_scheduler.proofs.SlotTaken as SchedulerSlotTaken
pub use Rattle.play_scheduler.proofs.Stopped as SchedulerStopped
pub use Rattle.play_scheduler.proofs.Unregisters as SchedulerUnregisters
pub use Rattle.play_scheduler.proofs.Vacancies as SchedulerVacancies
pub use Rattle.run_executor.proofs.Executing.Fresh as ExecutorFresh
pub use Rattle.run_executor.proofs.Executing.RowLeads as ExecutorRowLeads
pub use Rattle.run_executor.proofs.Given.ChangesBegun
pub use Rattle.run_executor.proofs.Given.ChangesChanges
pub use Rattle.run_executor.proofs.Given.ChangesFound
pub use Rattle.run_executor.proofs.Given.ChangesLogs
pub use Rattle.run_executor.proofs.Given.HandsAsking
pub use Rattle.run_executor.proofs.Given.HandsCalling
pub use Rattle.run_executor.proofs.Given.MomentsAfter
pub use Rattle.run_executor.proofs.Given.MomentsNewMaps
pub use Rattle.run_executor.proofs.Given.MomentsNumbers
pub use Rattle.run_executor.proofs.Given.ScenesLeads
pub use Rattle.run_executor.proofs.Given.SpotsUnreclaimed
pub use Rattle.run_executor.proofs.Named.Called as NamedCalled
pub use Rattle.run_sweeps.proofs.Needs.Ends as NeedsEnds
pub use Rattle.run_sweeps.proofs.Needs.Firsts as NeedsFirsts
pub use Rattle.run_sweeps.proofs.Needs.Makings as NeedsMakings
pub use Rattle.run_sweeps.proofs.Needs.TablesMade as NeedsTablesMade
pub use Rattle.run_sweeps.proofs.Purposes.Nothing as PurposesNothing
pub use Rattle.run_sweeps.proofs.Purposes.WalkWords as PurposesWalkWords
pub use Rattle.run_sweeps.proofs.Quiet.Saying as QuietSaying
pub use Rattle.run_sweeps.proofs.Quiet.Sweeps as QuietSweeps
pub use Rattle.seize_words.proofs.General
pub use Rattle.seize_words.proofs.OneMemory.Places as SeizeWordsPlaces
