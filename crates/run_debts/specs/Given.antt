-- The words of the crates below, given on to the crates above: these list this crate in place of those.
pub use Rattle.owner_facts.specs.Given.CallersKept
pub use Rattle.owner_facts.specs.Given.CallersOverAll
pub use Rattle.owner_facts.specs.Given.CallersRooms
pub use Rattle.owner_facts.specs.Given.CallersRows
pub use Rattle.owner_facts.specs.Given.CallersSights
pub use Rattle.owner_facts.specs.Given.CallersTogether
pub use Rattle.owner_facts.specs.Given.FinishesEndings
pub use Rattle.owner_facts.specs.Given.FinishesFactsEnds
pub use Rattle.owner_facts.specs.Given.FinishesMachines
pub use Rattle.owner_facts.specs.Given.FinishesMakings
pub use Rattle.owner_facts.specs.Given.FinishesMaps
pub use Rattle.owner_facts.specs.Given.FinishesOrders
pub use Rattle.owner_facts.specs.Given.FinishesSweeps
pub use Rattle.owner_facts.specs.Given.SeizeWaitingHeld
pub use Rattle.owner_facts.specs.Maps.EndingsEnds as MapsEndingsEnds
pub use Rattle.owner_facts.specs.Maps.MeasuresBegins as MapsMeasuresBegins
pub use Rattle.owner_facts.specs.Maps.MeasuresEnds as MapsMeasuresEnds
pub use Rattle.run_places.specs.Given.EffectsDeclared
pub use Rattle.run_places.specs.Given.EffectsEffects
pub use Rattle.run_places.specs.Given.EffectsKnown
pub use Rattle.run_places.specs.Given.FollowsBlocks
pub use Rattle.run_places.specs.Given.FollowsCalling
pub use Rattle.run_places.specs.Given.FollowsCalls
pub use Rattle.run_places.specs.Given.FollowsFinds
pub use Rattle.run_places.specs.Given.FollowsMaps
pub use Rattle.run_places.specs.Given.FollowsShows
pub use Rattle.run_places.specs.Given.FollowsSteps
pub use Rattle.run_places.specs.Given.OthersEndings
pub use Rattle.run_places.specs.Given.OthersMakings
pub use Rattle.run_places.specs.Given.OthersRows
pub use Rattle.run_places.specs.Given.OthersWalks
pub use Rattle.run_places.specs.Given.RawDeclared
pub use Rattle.run_places.specs.Given.RawEndMap
pub use Rattle.run_places.specs.Given.RawMachine
pub use Rattle.run_places.specs.Given.ReclaimsLeft
pub use Rattle.run_places.specs.Given.ReclaimsReclaims
pub use Rattle.run_places.specs.Given.ReservesDeclared
pub use Rattle.run_places.specs.Given.ResizeDeclared
pub use Rattle.run_places.specs.Given.ResizeNewMap
pub use Rattle.run_places.specs.Given.RuleChart
pub use Rattle.run_places.specs.Given.RuleInWorld
pub use Rattle.run_places.specs.Given.RuleWords
pub use Rattle.run_places.specs.Given.RunsDeclared
pub use Rattle.run_places.specs.Given.RunsLifeCycle
pub use Rattle.run_places.specs.Given.RunsSame
pub use Rattle.run_places.specs.Given.ScenesBeginning
pub use Rattle.run_places.specs.Given.ScenesDeclared
pub use Rattle.run_places.specs.Given.ScenesEnding
pub use Rattle.run_places.specs.Given.ScenesHeld
pub use Rattle.run_places.specs.Given.ScenesMaking
pub use Rattle.run_places.specs.Given.ScenesOnSlots
pub use Rattle.run_places.specs.Given.ScenesReplying
pub use Rattle.run_places.specs.Given.ScenesRows
pub use Rattle.run_places.specs.Given.ScenesScene
pub use Rattle.run_places.specs.Given.ScenesStepping
pub use Rattle.run_places.specs.Given.SchedulesAfter
pub use Rattle.run_places.specs.Given.SchedulesBeginning
pub use Rattle.run_places.specs.Given.SchedulesEffects
pub use Rattle.run_places.specs.Given.SchedulesEntry
pub use Rattle.run_places.specs.Given.SchedulesGrowing
pub use Rattle.run_places.specs.Given.SchedulesHanding
pub use Rattle.run_places.specs.Given.SchedulesLists
pub use Rattle.run_places.specs.Given.SchedulesLives
pub use Rattle.run_places.specs.Given.SchedulesMoment
pub use Rattle.run_places.specs.Given.SchedulesReclaims
pub use Rattle.run_places.specs.Given.SchedulesSequential
pub use Rattle.run_places.specs.Given.SchedulesTerms
pub use Rattle.run_places.specs.Given.SchedulesThings
pub use Rattle.run_places.specs.Given.SchedulesViews
pub use Rattle.run_places.specs.Given.SeizeDeclared
pub use Rattle.run_places.specs.Given.SeizeDefer
pub use Rattle.run_places.specs.Given.SeizeFurther
pub use Rattle.run_places.specs.Given.SeizeLaw
pub use Rattle.run_places.specs.Given.SeizeReclaimsRoots
pub use Rattle.run_places.specs.Given.SeizeSequence
pub use Rattle.run_places.specs.Given.SeizeSettle
pub use Rattle.run_places.specs.Given.SeizeWordsDeclared
pub use Rattle.run_places.specs.Given.SeizeWordsMem
pub use Rattle.run_places.specs.Given.SeizeWordsOp
pub use Rattle.run_places.specs.Given.SeizeWordsPlace
pub use Rattle.run_places.specs.Given.SeizeWordsPlan
pub use Rattle.run_places.specs.Given.SeizeWordsSlotWords
pub use Rattle.run_places.specs.Given.SeizeWordsWord
pub use Rattle.run_places.specs.Given.SeizeWorld
pub use Rattle.run_places.specs.Given.TablesChunks
pub use Rattle.run_places.specs.Given.TablesDeclared
pub use Rattle.run_places.specs.Given.TablesNodes
pub use Rattle.run_places.specs.Given.TellerChanged
pub use Rattle.run_places.specs.Given.TellerTells
pub use Rattle.run_places.specs.Given.TellsSeen
pub use Rattle.run_places.specs.Hands.Asked as HandsAsked
pub use Rattle.run_places.specs.Hands.Hands as HandsHands
pub use Rattle.run_places.specs.Hands.Rows as HandsRows
pub use Rattle.run_places.specs.Moments.Endings as MomentsEndings
pub use Rattle.run_places.specs.Moments.Numbers as MomentsNumbers
pub use Rattle.run_places.specs.Moments.OnSlots as MomentsOnSlots
pub use Rattle.run_places.specs.Moments.Whole as MomentsWhole
pub use Rattle.run_places.specs.Spots.OnSlots as SpotsOnSlots
pub use Rattle.run_places.specs.Spots.Unreclaimed as SpotsUnreclaimed
