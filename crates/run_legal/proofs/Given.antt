-- What is so by the crates below, given on to the crates above: these list this crate in place of those.
pub use Rattle.run_grows.proofs.Given.CallersTogether
pub use Rattle.run_grows.proofs.Given.FindsCapacities
pub use Rattle.run_grows.proofs.Given.FindsEndings
pub use Rattle.run_grows.proofs.Given.FindsGrows
pub use Rattle.run_grows.proofs.Given.FindsLife
pub use Rattle.run_grows.proofs.Given.FindsLists
pub use Rattle.run_grows.proofs.Given.FindsOver
pub use Rattle.run_grows.proofs.Given.FindsRuns
pub use Rattle.run_grows.proofs.Given.FindsSomewhere
pub use Rattle.run_grows.proofs.Given.FindsSteps
pub use Rattle.run_grows.proofs.Given.FollowsCalling
pub use Rattle.run_grows.proofs.Given.FollowsOfEach
pub use Rattle.run_grows.proofs.Given.FollowsOperations
pub use Rattle.run_grows.proofs.Given.HandsAsking
pub use Rattle.run_grows.proofs.Given.KeptCalls
pub use Rattle.run_grows.proofs.Given.KeptStays
pub use Rattle.run_grows.proofs.Given.LateKindsKept
pub use Rattle.run_grows.proofs.Given.LivesLeftTables
pub use Rattle.run_grows.proofs.Given.LivesWorlds
pub use Rattle.run_grows.proofs.Given.ModelsCallEvents
pub use Rattle.run_grows.proofs.Given.ModelsFollows
pub use Rattle.run_grows.proofs.Given.ModelsTurns
pub use Rattle.run_grows.proofs.Given.MomentsMakingSteps
pub use Rattle.run_grows.proofs.Given.NamedCalled
pub use Rattle.run_grows.proofs.Given.OthersLeads
pub use Rattle.run_grows.proofs.Given.OthersOutcomes
pub use Rattle.run_grows.proofs.Given.OthersRowPlans
pub use Rattle.run_grows.proofs.Given.OwesCalls
pub use Rattle.run_grows.proofs.Given.OwesClear
pub use Rattle.run_grows.proofs.Given.OwesEvents
pub use Rattle.run_grows.proofs.Given.OwesKept
pub use Rattle.run_grows.proofs.Given.OwesLooking
pub use Rattle.run_grows.proofs.Given.OwesReady
pub use Rattle.run_grows.proofs.Given.OwesShort
pub use Rattle.run_grows.proofs.Given.OwesTables
pub use Rattle.run_grows.proofs.Given.PromisesBrief
pub use Rattle.run_grows.proofs.Given.PromisesGuards
pub use Rattle.run_grows.proofs.Given.PromisesProtected
pub use Rattle.run_grows.proofs.Given.PromisesWeights
pub use Rattle.run_grows.proofs.Given.RemainsSlots
pub use Rattle.run_grows.proofs.Given.ScenesGoes
pub use Rattle.run_grows.proofs.Given.ScenesMay
pub use Rattle.run_grows.proofs.Given.ScenesNoCall
pub use Rattle.run_grows.proofs.Given.SeizeWordsPlaces
pub use Rattle.run_grows.proofs.Given.SettlesCalls
pub use Rattle.run_grows.proofs.Given.SettlesHand
pub use Rattle.run_grows.proofs.Given.SpotsEffects
pub use Rattle.run_grows.proofs.Given.SpotsUnreclaimed
pub use Rattle.run_grows.proofs.Grows.Finding as GrowsFinding
pub use Rattle.run_grows.proofs.Grows.Limits.Cases as LimitsCases
pub use Rattle.run_grows.proofs.Grows.Tries as GrowsTries
pub use Rattle.run_grows.proofs.Sources.Steps as SourcesSteps
pub use Rattle.run_grows.proofs.Waits.Between as WaitsBetween
pub use Rattle.run_logged.proofs.Given.HistoriesRefusals
pub use Rattle.run_logged.proofs.Log.Choosing as LoggedChoosing
pub use Rattle.run_logged.proofs.Log.EndSteps as LogEndSteps
pub use Rattle.run_logged.proofs.Log.EndTold as LogEndTold
pub use Rattle.run_logged.proofs.Log.GivenBack as LoggedGivenBack
pub use Rattle.run_logged.proofs.Log.MakingSteps as LogMakingSteps
pub use Rattle.run_logged.proofs.Log.MakingTables as LogMakingTables
pub use Rattle.run_logged.proofs.Log.MakingsRun as LogMakingsRun
pub use Rattle.run_logged.proofs.Log.Reclaiming.Rest as ReclaimingRest
pub use Rattle.run_logged.proofs.Log.ReclaimsRun as LogReclaimsRun
pub use Rattle.run_logged.proofs.Rows.InUse as RowsInUse
pub use Rattle.run_logged.proofs.Rows.NeverWaits as RowsNeverWaits
pub use Rattle.run_logged.proofs.Rows.Ran as RowsRan
pub use Rattle.run_logged.proofs.Rows.There as RowsThere
pub use Rattle.run_sweeps.proofs.Given.FindsGrown
pub use Rattle.run_sweeps.proofs.Needs.Firsts as NeedsFirsts
pub use Rattle.run_sweeps.proofs.Needs.Makings as NeedsMakings
pub use Rattle.run_sweeps.proofs.Needs.Steps as NeedsSteps
pub use Rattle.run_sweeps.proofs.Needs.TablesMade as NeedsTablesMade
pub use Rattle.run_sweeps.proofs.Quiet.RoomSays as QuietRoomSays
