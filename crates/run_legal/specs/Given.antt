-- The words of the crates below, given on to the crates above: these list this crate in place of those.
pub use Rattle.run_grows.specs.Given.CallersOverAll
pub use Rattle.run_grows.specs.Given.CallersPairs
pub use Rattle.run_grows.specs.Given.CallersTogether
pub use Rattle.run_grows.specs.Given.EffectsDeclared
pub use Rattle.run_grows.specs.Given.EffectsEffects
pub use Rattle.run_grows.specs.Given.EffectsKnown
pub use Rattle.run_grows.specs.Given.ExecutorDeclared
pub use Rattle.run_grows.specs.Given.FindsCapacities
pub use Rattle.run_grows.specs.Given.FindsLife
pub use Rattle.run_grows.specs.Given.FindsLinking
pub use Rattle.run_grows.specs.Given.FindsParts
pub use Rattle.run_grows.specs.Given.FindsWaiting
pub use Rattle.run_grows.specs.Given.FindsWithin
pub use Rattle.run_grows.specs.Given.FinishesEndings
pub use Rattle.run_grows.specs.Given.FinishesFactsEnds
pub use Rattle.run_grows.specs.Given.FinishesMachines
pub use Rattle.run_grows.specs.Given.FinishesMakings
pub use Rattle.run_grows.specs.Given.FinishesMaps
pub use Rattle.run_grows.specs.Given.FollowsBlocks
pub use Rattle.run_grows.specs.Given.FollowsCalling
pub use Rattle.run_grows.specs.Given.FollowsCalls
pub use Rattle.run_grows.specs.Given.FollowsShows
pub use Rattle.run_grows.specs.Given.HandsAsked
pub use Rattle.run_grows.specs.Given.HistoriesDue
pub use Rattle.run_grows.specs.Given.HistoriesEvents
pub use Rattle.run_grows.specs.Given.HistoriesInEvent
pub use Rattle.run_grows.specs.Given.KeptKept
pub use Rattle.run_grows.specs.Given.LateFaults
pub use Rattle.run_grows.specs.Given.LateKinds
pub use Rattle.run_grows.specs.Given.LivesBehind
pub use Rattle.run_grows.specs.Given.LivesWaiting
pub use Rattle.run_grows.specs.Given.ModelsAlike
pub use Rattle.run_grows.specs.Given.ModelsCallEvents
pub use Rattle.run_grows.specs.Given.ModelsFollows
pub use Rattle.run_grows.specs.Given.ModelsNumbers
pub use Rattle.run_grows.specs.Given.ModelsOnSlots
pub use Rattle.run_grows.specs.Given.MomentsOnSlots
pub use Rattle.run_grows.specs.Given.MomentsWhole
pub use Rattle.run_grows.specs.Given.NamedMachines
pub use Rattle.run_grows.specs.Given.NamedPlaces
pub use Rattle.run_grows.specs.Given.NamedSeen
pub use Rattle.run_grows.specs.Given.OthersEndings
pub use Rattle.run_grows.specs.Given.OthersMakings
pub use Rattle.run_grows.specs.Given.OthersRows
pub use Rattle.run_grows.specs.Given.OthersWalks
pub use Rattle.run_grows.specs.Given.OwesEvents
pub use Rattle.run_grows.specs.Given.OwesLooking
pub use Rattle.run_grows.specs.Given.OwesMaking
pub use Rattle.run_grows.specs.Given.OwesTables
pub use Rattle.run_grows.specs.Given.PointsFactsCalls
pub use Rattle.run_grows.specs.Given.PointsSteps
pub use Rattle.run_grows.specs.Given.PromisesGuards
pub use Rattle.run_grows.specs.Given.PromisesMeanwhile
pub use Rattle.run_grows.specs.Given.PromisesOthers
pub use Rattle.run_grows.specs.Given.PromisesProtected
pub use Rattle.run_grows.specs.Given.PurposesPurposes
pub use Rattle.run_grows.specs.Given.ReclaimsReclaims
pub use Rattle.run_grows.specs.Given.RemainsSlots
pub use Rattle.run_grows.specs.Given.ResizeNewTable
pub use Rattle.run_grows.specs.Given.ScenesBeginning
pub use Rattle.run_grows.specs.Given.ScenesDeclared
pub use Rattle.run_grows.specs.Given.ScenesEnding
pub use Rattle.run_grows.specs.Given.ScenesHeld
pub use Rattle.run_grows.specs.Given.ScenesMaking
pub use Rattle.run_grows.specs.Given.ScenesOnSlots
pub use Rattle.run_grows.specs.Given.ScenesReclaiming
pub use Rattle.run_grows.specs.Given.ScenesReplying
pub use Rattle.run_grows.specs.Given.ScenesRows
pub use Rattle.run_grows.specs.Given.ScenesScene
pub use Rattle.run_grows.specs.Given.ScenesStepping
pub use Rattle.run_grows.specs.Given.SeizeLeave
pub use Rattle.run_grows.specs.Given.SeizeRegister
pub use Rattle.run_grows.specs.Given.SeizeSettle
pub use Rattle.run_grows.specs.Given.SettlesCounts
pub use Rattle.run_grows.specs.Given.SettlesHand
pub use Rattle.run_grows.specs.Given.SpotsUnreclaimed
pub use Rattle.run_grows.specs.Given.TablesDeclared
pub use Rattle.run_grows.specs.Given.TablesNodes
pub use Rattle.run_grows.specs.Given.TellerTells
pub use Rattle.run_grows.specs.Given.TellsSeen
pub use Rattle.run_grows.specs.Grows.Copiers as GrowsCopiers
pub use Rattle.run_grows.specs.Grows.Finding as GrowsFinding
pub use Rattle.run_grows.specs.Grows.Nexts as GrowsNexts
pub use Rattle.run_grows.specs.Grows.Tries as GrowsTries
pub use Rattle.run_grows.specs.Sources.Sources as SourcesSources
pub use Rattle.run_grows.specs.Sources.Stays as SourcesStays
pub use Rattle.run_logged.specs.Log.Choosing as LoggedChoosing
pub use Rattle.run_logged.specs.Log.OnSlots as LogOnSlots
pub use Rattle.run_logged.specs.Rows.Rows as RowsRows
pub use Rattle.run_logged.specs.contracts as LoggedContracts
pub use Rattle.run_sweeps.specs.Needs.Firsts as NeedsFirsts
pub use Rattle.run_sweeps.specs.Needs.Makings as NeedsMakings
