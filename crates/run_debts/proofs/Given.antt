-- What is so by the crates below, given on to the crates above: these list this crate in place of those.
pub use Rattle.owner_facts.proofs.Given.CallersRows
pub use Rattle.owner_facts.proofs.Given.CallersTogether
pub use Rattle.owner_facts.proofs.Given.FinishesBeside
pub use Rattle.owner_facts.proofs.Given.FinishesEnds
pub use Rattle.owner_facts.proofs.Given.SeizeAloneHistories
pub use Rattle.owner_facts.proofs.Given.SeizeAloneSpared
pub use Rattle.owner_facts.proofs.Given.SeizeMemoryWords
pub use Rattle.owner_facts.proofs.Given.SeizeMovesMoves
pub use Rattle.owner_facts.proofs.Given.SeizeMovesSets
pub use Rattle.owner_facts.proofs.Given.SeizeMovesState
pub use Rattle.owner_facts.proofs.Given.SeizeRulePoints
pub use Rattle.owner_facts.proofs.Given.SeizeRuleRows
pub use Rattle.owner_facts.proofs.Given.SeizeRuleWorld
pub use Rattle.owner_facts.proofs.Given.SeizeWaitingCounts
pub use Rattle.owner_facts.proofs.Maps.Begins as MapsBegins
pub use Rattle.owner_facts.proofs.Maps.Ends as MapsEnds
pub use Rattle.run_places.proofs.Changes.Changes as ChangesChanges
pub use Rattle.run_places.proofs.Changes.Which as ChangesWhich
pub use Rattle.run_places.proofs.Given.FollowsAlike
pub use Rattle.run_places.proofs.Given.FollowsCalling
pub use Rattle.run_places.proofs.Given.FollowsCalls
pub use Rattle.run_places.proofs.Given.FollowsContents
pub use Rattle.run_places.proofs.Given.FollowsFinds
pub use Rattle.run_places.proofs.Given.FollowsOfEach
pub use Rattle.run_places.proofs.Given.FollowsOnward
pub use Rattle.run_places.proofs.Given.FollowsOperations
pub use Rattle.run_places.proofs.Given.FollowsRowSteps
pub use Rattle.run_places.proofs.Given.FollowsRows
pub use Rattle.run_places.proofs.Given.FollowsSteps
pub use Rattle.run_places.proofs.Given.FollowsTold
pub use Rattle.run_places.proofs.Given.FollowsWrites
pub use Rattle.run_places.proofs.Given.General
pub use Rattle.run_places.proofs.Given.OthersEnds
pub use Rattle.run_places.proofs.Given.OthersLeads
pub use Rattle.run_places.proofs.Given.OthersMakes
pub use Rattle.run_places.proofs.Given.OthersMakingPlans
pub use Rattle.run_places.proofs.Given.OthersOutcomes
pub use Rattle.run_places.proofs.Given.OthersQuiet
pub use Rattle.run_places.proofs.Given.OthersRowPlans
pub use Rattle.run_places.proofs.Given.ReclaimsBehind
pub use Rattle.run_places.proofs.Given.ReclaimsLeft
pub use Rattle.run_places.proofs.Given.RuleWorld
pub use Rattle.run_places.proofs.Given.RunsPairs
pub use Rattle.run_places.proofs.Given.ScenesBetween
pub use Rattle.run_places.proofs.Given.ScenesGoes
pub use Rattle.run_places.proofs.Given.ScenesMay
pub use Rattle.run_places.proofs.Given.ScenesNoCall
pub use Rattle.run_places.proofs.Given.ScenesTold
pub use Rattle.run_places.proofs.Given.SeizeReclaimsRoots
pub use Rattle.run_places.proofs.Given.SeizeWordsOneOwner
pub use Rattle.run_places.proofs.Given.SeizeWordsPlaces
pub use Rattle.run_places.proofs.Hands.Asking as HandsAsking
pub use Rattle.run_places.proofs.Hands.Calling as HandsCalling
pub use Rattle.run_places.proofs.Hands.Done as HandsDone
pub use Rattle.run_places.proofs.Hands.RowSteps as HandsRowSteps
pub use Rattle.run_places.proofs.Hands.Steps as HandsSteps
pub use Rattle.run_places.proofs.Moments.Calls as MomentsCalls
pub use Rattle.run_places.proofs.Moments.Ends as MomentsEnds
pub use Rattle.run_places.proofs.Moments.MakingSteps as MomentsMakingSteps
pub use Rattle.run_places.proofs.Moments.Makings as MomentsMakings
pub use Rattle.run_places.proofs.Moments.Numbers as MomentsNumbers
pub use Rattle.run_places.proofs.Moments.OnSlots as MomentsOnSlots
pub use Rattle.run_places.proofs.Moments.Roles as MomentsRoles
pub use Rattle.run_places.proofs.Spots.Calm as SpotsCalm
pub use Rattle.run_places.proofs.Spots.Elsewhere as SpotsElsewhere
pub use Rattle.run_places.proofs.Spots.Handing as SpotsHanding
pub use Rattle.run_places.proofs.Spots.Steps as SpotsSteps
pub use Rattle.run_places.proofs.Spots.Unreclaimed as SpotsUnreclaimed
