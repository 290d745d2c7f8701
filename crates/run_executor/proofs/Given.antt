-- What is so by the crates below, given on to the crates above: these list this crate in place of those.
pub use Rattle.run_places.proofs.Changes.Begun as ChangesBegun
pub use Rattle.run_places.proofs.Changes.Changes as ChangesChanges
pub use Rattle.run_places.proofs.Changes.Found as ChangesFound
pub use Rattle.run_places.proofs.Changes.Had as ChangesHad
pub use Rattle.run_places.proofs.Changes.Later as ChangesLater
pub use Rattle.run_places.proofs.Changes.Logs as ChangesLogs
pub use Rattle.run_places.proofs.Changes.Now as ChangesNow
pub use Rattle.run_places.proofs.Changes.Steps as ChangesSteps
pub use Rattle.run_places.proofs.Changes.Within as ChangesWithin
pub use Rattle.run_places.proofs.Given.CallersAsked
pub use Rattle.run_places.proofs.Given.CallersSights
pub use Rattle.run_places.proofs.Given.CallersTogether
pub use Rattle.run_places.proofs.Given.FinishesAmong
pub use Rattle.run_places.proofs.Given.FinishesEnds
pub use Rattle.run_places.proofs.Given.FollowsAlike
pub use Rattle.run_places.proofs.Given.FollowsCalled
pub use Rattle.run_places.proofs.Given.FollowsCalling
pub use Rattle.run_places.proofs.Given.FollowsCalls
pub use Rattle.run_places.proofs.Given.FollowsContents
pub use Rattle.run_places.proofs.Given.FollowsFinds
pub use Rattle.run_places.proofs.Given.FollowsHanded
pub use Rattle.run_places.proofs.Given.FollowsLinked
pub use Rattle.run_places.proofs.Given.FollowsOfEach
pub use Rattle.run_places.proofs.Given.FollowsOnward
pub use Rattle.run_places.proofs.Given.FollowsOperations
pub use Rattle.run_places.proofs.Given.FollowsQuiet
pub use Rattle.run_places.proofs.Given.FollowsRowSteps
pub use Rattle.run_places.proofs.Given.FollowsRows
pub use Rattle.run_places.proofs.Given.FollowsSteps
pub use Rattle.run_places.proofs.Given.FollowsStored
pub use Rattle.run_places.proofs.Given.FollowsTold
pub use Rattle.run_places.proofs.Given.FollowsWrites
pub use Rattle.run_places.proofs.Given.LateCopiers
pub use Rattle.run_places.proofs.Given.LateKindsKept
pub use Rattle.run_places.proofs.Given.LateSwept
pub use Rattle.run_places.proofs.Given.OthersEndBegins
pub use Rattle.run_places.proofs.Given.OthersLeads
pub use Rattle.run_places.proofs.Given.OthersMakes
pub use Rattle.run_places.proofs.Given.OthersMakingGoes
pub use Rattle.run_places.proofs.Given.OthersMakingPlans
pub use Rattle.run_places.proofs.Given.OthersOutcomes
pub use Rattle.run_places.proofs.Given.OthersOutside
pub use Rattle.run_places.proofs.Given.OthersRowGives
pub use Rattle.run_places.proofs.Given.OthersRowPlans
pub use Rattle.run_places.proofs.Given.OthersRows
pub use Rattle.run_places.proofs.Given.OthersStays
pub use Rattle.run_places.proofs.Given.OthersWalks
pub use Rattle.run_places.proofs.Given.PointsCalls
pub use Rattle.run_places.proofs.Given.PointsMovedLasts
pub use Rattle.run_places.proofs.Given.RuleHistory
pub use Rattle.run_places.proofs.Given.RuleKeys
pub use Rattle.run_places.proofs.Given.RuleLaws
pub use Rattle.run_places.proofs.Given.RuleMoves
pub use Rattle.run_places.proofs.Given.RuleWords
pub use Rattle.run_places.proofs.Given.RuleWorld
pub use Rattle.run_places.proofs.Given.ScenesGoes
pub use Rattle.run_places.proofs.Given.ScenesLeads
pub use Rattle.run_places.proofs.Given.ScenesMay
pub use Rattle.run_places.proofs.Given.ScenesNoCall
pub use Rattle.run_places.proofs.Given.ScenesRows
pub use Rattle.run_places.proofs.Given.ScenesTold
pub use Rattle.run_places.proofs.Given.SeizeActsWaits
pub use Rattle.run_places.proofs.Given.SeizeAloneHistories
pub use Rattle.run_places.proofs.Given.SeizeAloneSpared
pub use Rattle.run_places.proofs.Given.SeizeAloneWhole
pub use Rattle.run_places.proofs.Given.SeizeEndsBatches
pub use Rattle.run_places.proofs.Given.SeizeMemoryWords
pub use Rattle.run_places.proofs.Given.SeizeMovesState
pub use Rattle.run_places.proofs.Given.SeizeQuietSlots
pub use Rattle.run_places.proofs.Given.SeizeReclaimsAllReclaimed
pub use Rattle.run_places.proofs.Given.SeizeRulePoints
pub use Rattle.run_places.proofs.Given.SeizeRuleRows
pub use Rattle.run_places.proofs.Given.SeizeRuleWords
pub use Rattle.run_places.proofs.Given.SeizeRuleWorld
pub use Rattle.run_places.proofs.Given.SeizeSetsReclaims
pub use Rattle.run_places.proofs.Given.SeizeSetsSlots
pub use Rattle.run_places.proofs.Given.SeizeSetsTurns
pub use Rattle.run_places.proofs.Given.SeizeWaitingFlushes
pub use Rattle.run_places.proofs.Given.SeizeWaitingLaws
pub use Rattle.run_places.proofs.Given.SeizeWaitingTidy
pub use Rattle.run_places.proofs.Given.TellsPromised
pub use Rattle.run_places.proofs.Hands.Asking as HandsAsking
pub use Rattle.run_places.proofs.Hands.Calling as HandsCalling
pub use Rattle.run_places.proofs.Hands.Firsts as HandsFirsts
pub use Rattle.run_places.proofs.Hands.Guarded as HandsGuarded
pub use Rattle.run_places.proofs.Hands.Handing as HandsHanding
pub use Rattle.run_places.proofs.Hands.Replacing as HandsReplacing
pub use Rattle.run_places.proofs.Hands.Replies as HandsReplies
pub use Rattle.run_places.proofs.Hands.RowSteps as HandsRowSteps
pub use Rattle.run_places.proofs.Hands.SettlingRows as HandsSettlingRows
pub use Rattle.run_places.proofs.Hands.Steps as HandsSteps
pub use Rattle.run_places.proofs.Moments.After as MomentsAfter
pub use Rattle.run_places.proofs.Moments.Beside as MomentsBeside
pub use Rattle.run_places.proofs.Moments.Calls as MomentsCalls
pub use Rattle.run_places.proofs.Moments.Ends as MomentsEnds
pub use Rattle.run_places.proofs.Moments.MakingSteps as MomentsMakingSteps
pub use Rattle.run_places.proofs.Moments.Makings as MomentsMakings
pub use Rattle.run_places.proofs.Moments.MapsCome as MomentsMapsCome
pub use Rattle.run_places.proofs.Moments.NewMaps as MomentsNewMaps
pub use Rattle.run_places.proofs.Moments.Numbers as MomentsNumbers
pub use Rattle.run_places.proofs.Moments.OnSlots as MomentsOnSlots
pub use Rattle.run_places.proofs.Moments.Over as MomentsOver
pub use Rattle.run_places.proofs.Moments.Walks as MomentsWalks
pub use Rattle.run_places.proofs.Moments.WholeEnds as MomentsWholeEnds
pub use Rattle.run_places.proofs.Spots.Deferred as SpotsDeferred
pub use Rattle.run_places.proofs.Spots.Done as SpotsDone
pub use Rattle.run_places.proofs.Spots.Effects as SpotsEffects
pub use Rattle.run_places.proofs.Spots.Elsewhere as SpotsElsewhere
pub use Rattle.run_places.proofs.Spots.Handing as SpotsHanding
pub use Rattle.run_places.proofs.Spots.Names as SpotsNames
pub use Rattle.run_places.proofs.Spots.OnSlots as SpotsOnSlots
pub use Rattle.run_places.proofs.Spots.Placed as SpotsPlaced
pub use Rattle.run_places.proofs.Spots.Rows as SpotsRows
pub use Rattle.run_places.proofs.Spots.Stays as SpotsStays
pub use Rattle.run_places.proofs.Spots.Steps as SpotsSteps
pub use Rattle.run_places.proofs.Spots.Stills as SpotsStills
pub use Rattle.run_places.proofs.Spots.Taken as SpotsTaken
pub use Rattle.run_places.proofs.Spots.Unreclaimed as SpotsUnreclaimed
pub use Rattle.seize_words.proofs.General
pub use Rattle.seize_words.proofs.OneMemory.OneOwner as SeizeWordsOneOwner
pub use Rattle.seize_words.proofs.OneMemory.Places as SeizeWordsPlaces
pub use Rattle.seize_words.proofs.OneMemory.Plans as SeizeWordsPlans
