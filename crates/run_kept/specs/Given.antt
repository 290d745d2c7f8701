-- The words of the crates below, given on to the crates above: these list this crate in place of those.
pub use Rattle.papaya_raw.specs.CallAsks as RawCallAsks
pub use Rattle.papaya_raw.specs.CallPoints as RawCallPoints
pub use Rattle.run_blocks.specs.Given.HistoriesAnswers
pub use Rattle.run_blocks.specs.Given.HistoriesAsCalled
pub use Rattle.run_blocks.specs.Given.HistoriesAsking
pub use Rattle.run_blocks.specs.Given.HistoriesDue
pub use Rattle.run_blocks.specs.Given.HistoriesEvents
pub use Rattle.run_blocks.specs.Given.HistoriesInEvent
pub use Rattle.run_blocks.specs.Given.HistoriesOtherCalls
pub use Rattle.run_blocks.specs.Given.HistoriesOtherMidsts
pub use Rattle.run_blocks.specs.Given.HistoriesQuestions
pub use Rattle.run_blocks.specs.Given.HistoriesSeveral
pub use Rattle.run_blocks.specs.Given.PromisesGuards
pub use Rattle.run_blocks.specs.Given.PromisesMeanwhile
pub use Rattle.run_blocks.specs.Given.PromisesOthers
pub use Rattle.run_blocks.specs.Given.PromisesProtected
pub use Rattle.run_blocks.specs.Given.PromisesReading
pub use Rattle.run_blocks.specs.Given.PromisesSheltered
pub use Rattle.run_blocks.specs.Given.PromisesWeights
pub use Rattle.run_blocks.specs.Given.ReclaimsLeft
pub use Rattle.run_blocks.specs.Given.ResizeNewMap
pub use Rattle.run_blocks.specs.Given.SettlesEntries
pub use Rattle.run_blocks.specs.Given.SettlesHand
pub use Rattle.run_blocks.specs.Given.SettlesOwing
pub use Rattle.run_blocks.specs.Given.WaitsWaits
pub use Rattle.run_blocks.specs.Owes.Events as OwesEvents
pub use Rattle.run_blocks.specs.Owes.Looking as OwesLooking
pub use Rattle.run_blocks.specs.Owes.Made as OwesMade
pub use Rattle.run_blocks.specs.Owes.Making as OwesMaking
pub use Rattle.run_blocks.specs.Owes.Tables as OwesTables
pub use Rattle.run_blocks.specs.Owes.TablesBeside as OwesTablesBeside
pub use Rattle.run_blocks.specs.Shards.Adds as ShardsAdds
pub use Rattle.run_executor.specs.Given.EffectsDeclared
pub use Rattle.run_executor.specs.Given.EffectsEffects
pub use Rattle.run_executor.specs.Given.EffectsKnown
pub use Rattle.run_executor.specs.Given.FinishesEndings
pub use Rattle.run_executor.specs.Given.FinishesFactsEnds
pub use Rattle.run_executor.specs.Given.FinishesMachines
pub use Rattle.run_executor.specs.Given.FinishesMakings
pub use Rattle.run_executor.specs.Given.FinishesMaps
pub use Rattle.run_executor.specs.Given.FinishesOrders
pub use Rattle.run_executor.specs.Given.FollowsCalling
pub use Rattle.run_executor.specs.Given.FollowsCalls
pub use Rattle.run_executor.specs.Given.FollowsMaps
pub use Rattle.run_executor.specs.Given.FollowsShows
pub use Rattle.run_executor.specs.Given.OthersEndings
pub use Rattle.run_executor.specs.Given.OthersMakings
pub use Rattle.run_executor.specs.Given.OthersRows
pub use Rattle.run_executor.specs.Given.ReclaimsReclaims
pub use Rattle.run_executor.specs.Given.RuleChart
pub use Rattle.run_executor.specs.Given.RuleInWorld
pub use Rattle.run_executor.specs.Given.ScenesBeginning
pub use Rattle.run_executor.specs.Given.ScenesContracts
pub use Rattle.run_executor.specs.Given.ScenesDeclared
pub use Rattle.run_executor.specs.Given.ScenesEnding
pub use Rattle.run_executor.specs.Given.ScenesHeld
pub use Rattle.run_executor.specs.Given.ScenesMaking
pub use Rattle.run_executor.specs.Given.ScenesOnSlots
pub use Rattle.run_executor.specs.Given.ScenesReclaiming
pub use Rattle.run_executor.specs.Given.ScenesReplying
pub use Rattle.run_executor.specs.Given.ScenesRows
pub use Rattle.run_executor.specs.Given.ScenesScene
pub use Rattle.run_executor.specs.Given.ScenesStepping
pub use Rattle.run_waiting.specs.Given.MapsEndingsEnds
pub use Rattle.run_waiting.specs.Given.MapsMeasuresBegins
pub use Rattle.run_waiting.specs.Given.MapsMeasuresEnds
pub use Rattle.run_waiting.specs.Lives.Behind as LivesBehind
pub use Rattle.run_waiting.specs.Lives.Handed as LivesHanded
pub use Rattle.run_waiting.specs.Lives.Retired as LivesRetired
pub use Rattle.run_waiting.specs.Lives.Waiting as LivesWaiting
pub use Rattle.run_waiting.specs.Remains.Numbered as RemainsNumbered
pub use Rattle.run_waiting.specs.Remains.Remains as RemainsRemains
pub use Rattle.run_waiting.specs.Remains.Slots as RemainsSlots
