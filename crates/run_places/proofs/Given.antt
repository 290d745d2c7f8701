-- What is so by the crates below, given on to the crates above: these list this crate in place of those.
pub use Rattle.run_shows.proofs.Follows.Alike as FollowsAlike
pub use Rattle.run_shows.proofs.Follows.Called as FollowsCalled
pub use Rattle.run_shows.proofs.Follows.Calling as FollowsCalling
pub use Rattle.run_shows.proofs.Follows.Calls as FollowsCalls
pub use Rattle.run_shows.proofs.Follows.Contents as FollowsContents
pub use Rattle.run_shows.proofs.Follows.Finds as FollowsFinds
pub use Rattle.run_shows.proofs.Follows.Going as FollowsGoing
pub use Rattle.run_shows.proofs.Follows.Handed as FollowsHanded
pub use Rattle.run_shows.proofs.Follows.Linked as FollowsLinked
pub use Rattle.run_shows.proofs.Follows.OfEach as FollowsOfEach
pub use Rattle.run_shows.proofs.Follows.Onward as FollowsOnward
pub use Rattle.run_shows.proofs.Follows.Operations as FollowsOperations
pub use Rattle.run_shows.proofs.Follows.Quiet as FollowsQuiet
pub use Rattle.run_shows.proofs.Follows.RowSteps as FollowsRowSteps
pub use Rattle.run_shows.proofs.Follows.Rows as FollowsRows
pub use Rattle.run_shows.proofs.Follows.Steps as FollowsSteps
pub use Rattle.run_shows.proofs.Follows.Stored as FollowsStored
pub use Rattle.run_shows.proofs.Follows.Told as FollowsTold
pub use Rattle.run_shows.proofs.Follows.Writes as FollowsWrites
pub use Rattle.run_shows.proofs.Given.CallersAsked
pub use Rattle.run_shows.proofs.Given.CallersRows
pub use Rattle.run_shows.proofs.Given.CallersSights
pub use Rattle.run_shows.proofs.Given.CallersTogether
pub use Rattle.run_shows.proofs.Given.FinishesAmong
pub use Rattle.run_shows.proofs.Given.FinishesBeside
pub use Rattle.run_shows.proofs.Given.FinishesEnds
pub use Rattle.run_shows.proofs.Given.General
pub use Rattle.run_shows.proofs.Given.LateCopiers
pub use Rattle.run_shows.proofs.Given.LateKindsKept
pub use Rattle.run_shows.proofs.Given.LateSwept
pub use Rattle.run_shows.proofs.Given.ManyMapsSamples
pub use Rattle.run_shows.proofs.Given.PointsCalls
pub use Rattle.run_shows.proofs.Given.PointsLookups
pub use Rattle.run_shows.proofs.Given.PointsMovedLasts
pub use Rattle.run_shows.proofs.Given.ReportingMemoryLaws
pub use Rattle.run_shows.proofs.Given.RuleHistory
pub use Rattle.run_shows.proofs.Given.RuleKeys
pub use Rattle.run_shows.proofs.Given.RuleLaws
pub use Rattle.run_shows.proofs.Given.RuleMoves
pub use Rattle.run_shows.proofs.Given.RuleWords
pub use Rattle.run_shows.proofs.Given.RuleWorld
pub use Rattle.run_shows.proofs.Given.RunsLaws
pub use Rattle.run_shows.proofs.Given.RunsPairs
pub use Rattle.run_shows.proofs.Given.SeizeActsWaits
pub use Rattle.run_shows.proofs.Given.SeizeAloneHistories
pub use Rattle.run_shows.proofs.Given.SeizeAloneSpared
pub use Rattle.run_shows.proofs.Given.SeizeAloneWhole
pub use Rattle.run_shows.proofs.Given.SeizeEndsBatches
pub use Rattle.run_shows.proofs.Given.SeizeMemoryWords
pub use Rattle.run_shows.proofs.Given.SeizeMovesState
pub use Rattle.run_shows.proofs.Given.SeizeQuietSlots
pub use Rattle.run_shows.proofs.Given.SeizeReclaimsAllReclaimed
pub use Rattle.run_shows.proofs.Given.SeizeReclaimsRoots
pub use Rattle.run_shows.proofs.Given.SeizeRulePoints
pub use Rattle.run_shows.proofs.Given.SeizeRuleRows
pub use Rattle.run_shows.proofs.Given.SeizeRuleWords
pub use Rattle.run_shows.proofs.Given.SeizeRuleWorld
pub use Rattle.run_shows.proofs.Given.SeizeSetsReclaims
pub use Rattle.run_shows.proofs.Given.SeizeSetsSlots
pub use Rattle.run_shows.proofs.Given.SeizeSetsTurns
pub use Rattle.run_shows.proofs.Given.SeizeWaitingFlushes
pub use Rattle.run_shows.proofs.Given.SeizeWaitingLaws
pub use Rattle.run_shows.proofs.Given.SeizeWaitingTidy
pub use Rattle.run_shows.proofs.Given.SeizeWordsOneOwner
pub use Rattle.run_shows.proofs.Given.SeizeWordsPlaces
pub use Rattle.run_shows.proofs.Given.SeizeWordsPlans
pub use Rattle.run_shows.proofs.Given.TellsPromised
pub use Rattle.run_shows.proofs.Others.Elsewhere as OthersElsewhere
pub use Rattle.run_shows.proofs.Others.EndBegins as OthersEndBegins
pub use Rattle.run_shows.proofs.Others.Ends as OthersEnds
pub use Rattle.run_shows.proofs.Others.Leads as OthersLeads
pub use Rattle.run_shows.proofs.Others.MakeBegins as OthersMakeBegins
pub use Rattle.run_shows.proofs.Others.Makes as OthersMakes
pub use Rattle.run_shows.proofs.Others.MakingGoes as OthersMakingGoes
pub use Rattle.run_shows.proofs.Others.MakingPlans as OthersMakingPlans
pub use Rattle.run_shows.proofs.Others.Outcomes as OthersOutcomes
pub use Rattle.run_shows.proofs.Others.Outside as OthersOutside
pub use Rattle.run_shows.proofs.Others.Quiet as OthersQuiet
pub use Rattle.run_shows.proofs.Others.RowBegins as OthersRowBegins
pub use Rattle.run_shows.proofs.Others.RowGives as OthersRowGives
pub use Rattle.run_shows.proofs.Others.RowPlans as OthersRowPlans
pub use Rattle.run_shows.proofs.Others.Rows as OthersRows
pub use Rattle.run_shows.proofs.Others.Stays as OthersStays
pub use Rattle.run_shows.proofs.Others.Walks as OthersWalks
pub use Rattle.run_shows.proofs.Reclaims.Behind as ReclaimsBehind
pub use Rattle.run_shows.proofs.Reclaims.Left as ReclaimsLeft
pub use Rattle.run_shows.proofs.Reclaims.Promised as ReclaimsPromised
pub use Rattle.run_shows.proofs.Scenes.Between as ScenesBetween
pub use Rattle.run_shows.proofs.Scenes.Goes as ScenesGoes
pub use Rattle.run_shows.proofs.Scenes.Leads as ScenesLeads
pub use Rattle.run_shows.proofs.Scenes.May as ScenesMay
pub use Rattle.run_shows.proofs.Scenes.NoCall as ScenesNoCall
pub use Rattle.run_shows.proofs.Scenes.OnSlots as ScenesOnSlots
pub use Rattle.run_shows.proofs.Scenes.Rows as ScenesRows
pub use Rattle.run_shows.proofs.Scenes.Told as ScenesTold
