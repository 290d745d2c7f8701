-- What is so by the crates below, given on to the crates above: these list this crate in place of those.
pub use Rattle.play_lists.proofs.Agrees.FirstPlaces as AgreesFirstPlaces
pub use Rattle.play_lists.proofs.Drives.Executors as DrivesExecutors
pub use Rattle.play_lists.proofs.Given.ActsLists
pub use Rattle.play_lists.proofs.Given.FindsOver
pub use Rattle.play_lists.proofs.Given.FollowsCalls
pub use Rattle.play_lists.proofs.Given.FollowsContents
pub use Rattle.play_lists.proofs.Given.ReclaimsLeft
pub use Rattle.play_lists.proofs.Given.RemainsNumbered
pub use Rattle.play_lists.proofs.Given.ScenesNoCall
pub use Rattle.play_lists.proofs.Given.ScenesTold
pub use Rattle.play_lists.proofs.Given.ShedsHeld
pub use Rattle.play_lists.proofs.Given.ShedsKeptGiven
pub use Rattle.play_lists.proofs.Grouped.AllGoes as GroupedAllGoes
pub use Rattle.play_lists.proofs.Grouped.Aside as GroupedAside
pub use Rattle.play_lists.proofs.Grouped.CallBegins as GroupedCallBegins
pub use Rattle.play_lists.proofs.Grouped.Callers as GroupedCallers
pub use Rattle.play_lists.proofs.Grouped.Chosen as GroupedChosen
pub use Rattle.play_lists.proofs.Grouped.EndGoes as GroupedEndGoes
pub use Rattle.play_lists.proofs.Grouped.MakingGoes as GroupedMakingGoes
pub use Rattle.play_lists.proofs.Grouped.Midst as GroupedMidst
pub use Rattle.play_lists.proofs.Grouped.OneMore as GroupedOneMore
pub use Rattle.play_lists.proofs.Grouped.Reached as GroupedReached
pub use Rattle.play_lists.proofs.Grouped.RowGoes as GroupedRowGoes
pub use Rattle.play_lists.proofs.Played.PlayedAs as PlayedPlayedAs
pub use Rattle.play_lists.proofs.Played.Tied as PlayedTied
pub use Rattle.play_stepping.proofs.Given.CallersTogether
pub use Rattle.play_stepping.proofs.Given.ChangesFound
pub use Rattle.play_stepping.proofs.Given.ExecutorFresh
pub use Rattle.play_stepping.proofs.Given.MomentsNewMaps
pub use Rattle.play_stepping.proofs.Given.MomentsNumbers
pub use Rattle.play_stepping.proofs.Given.PointsLawful
pub use Rattle.play_stepping.proofs.Given.PointsMaking
pub use Rattle.play_stepping.proofs.Given.RowsLists
pub use Rattle.play_stepping.proofs.Given.SchedulerBegins
pub use Rattle.play_stepping.proofs.Given.SchedulerBusy
pub use Rattle.play_stepping.proofs.Given.SchedulerChosen
pub use Rattle.play_stepping.proofs.Given.SchedulerDrops
pub use Rattle.play_stepping.proofs.Given.SchedulerEnters
pub use Rattle.play_stepping.proofs.Given.SchedulerFlushes
pub use Rattle.play_stepping.proofs.Given.SchedulerHere
pub use Rattle.play_stepping.proofs.Given.SchedulerMaps
pub use Rattle.play_stepping.proofs.Given.SchedulerRanOn
pub use Rattle.play_stepping.proofs.Given.SchedulerRefreshes
pub use Rattle.play_stepping.proofs.Given.SchedulerRights
pub use Rattle.play_stepping.proofs.Given.SchedulerSlotTaken
pub use Rattle.play_stepping.proofs.Given.SchedulerStopped
pub use Rattle.play_stepping.proofs.Given.SchedulerUnregisters
pub use Rattle.play_stepping.proofs.Given.SpotsUnreclaimed
pub use Rattle.play_stepping.proofs.Mapping.AllGiven as MappingAllGiven
pub use Rattle.play_stepping.proofs.Mapping.MapLists as MappingMapLists
pub use Rattle.play_stepping.proofs.Mapping.MapsEnded as MappingMapsEnded
pub use Rattle.run_legal.proofs.Begin as LegalBegin
pub use Rattle.run_legal.proofs.Come as LegalCome
pub use Rattle.run_legal.proofs.Given.LoggedChoosing
pub use Rattle.run_legal.proofs.Given.LoggedGivenBack
pub use Rattle.run_legal.proofs.Given.ModelsTurns
pub use Rattle.run_legal.proofs.Given.OwesCalls
pub use Rattle.run_legal.proofs.Given.RowsNeverWaits
pub use Rattle.run_legal.proofs.Given.RowsRan
pub use Rattle.run_legal.proofs.Legal as LegalLegal
pub use Rattle.seize_acts.proofs.Acts.Answers as SeizeActsAnswers
pub use Rattle.seize_acts.proofs.Given.SeizeEndsBatches
