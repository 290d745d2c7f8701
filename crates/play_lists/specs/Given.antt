-- The words of the crates below, given on to the crates above: these list this crate in place of those.
pub use Rattle.many_acts.specs.Acts.Acts as ActsActs
pub use Rattle.many_acts.specs.Acts.AsSteps as ActsAsSteps
pub use Rattle.many_acts.specs.Acts.Courses as ActsCourses
pub use Rattle.many_acts.specs.Acts.Doings as ActsDoings
pub use Rattle.many_acts.specs.Acts.Leads as ActsLeads
pub use Rattle.many_acts.specs.Acts.Lists as ActsLists
pub use Rattle.many_acts.specs.Given.FinishesEndings
pub use Rattle.many_acts.specs.Given.FinishesFactsEnds
pub use Rattle.many_acts.specs.Given.FinishesMachines
pub use Rattle.many_acts.specs.Given.FinishesMakings
pub use Rattle.many_acts.specs.Given.FinishesMaps
pub use Rattle.many_acts.specs.Given.FinishesOrders
pub use Rattle.many_acts.specs.Given.FollowsFinds
pub use Rattle.many_acts.specs.Given.OthersElsewhere
pub use Rattle.many_acts.specs.Given.OthersEndings
pub use Rattle.many_acts.specs.Given.OthersMakings
pub use Rattle.many_acts.specs.Given.OthersRows
pub use Rattle.many_acts.specs.Given.ScenesBeginning
pub use Rattle.many_acts.specs.Given.ScenesDeclared
pub use Rattle.many_acts.specs.Given.ScenesEnding
pub use Rattle.many_acts.specs.Given.ScenesHeld
pub use Rattle.many_acts.specs.Given.ScenesMaking
pub use Rattle.many_acts.specs.Given.ScenesOnSlots
pub use Rattle.many_acts.specs.Given.ScenesReclaiming
pub use Rattle.many_acts.specs.Given.ScenesReplying
pub use Rattle.many_acts.specs.Given.ScenesRows
pub use Rattle.many_acts.specs.Given.ScenesScene
pub use Rattle.many_acts.specs.Given.ScenesStepping
pub use Rattle.map_tables.specs.Chunks as TablesChunks
pub use Rattle.map_tables.specs.Finding as TablesFinding
pub use Rattle.map_tables.specs.Lengths as TablesLengths
pub use Rattle.map_tables.specs.Marks as TablesMarks
pub use Rattle.map_tables.specs.Nodes as TablesNodes
pub use Rattle.map_tables.specs.Powers as TablesPowers
pub use Rattle.map_tables.specs.Trials as TablesTrials
pub use Rattle.map_tables.specs.declared as TablesDeclared
pub use Rattle.run_finds.specs.Bounded as FindsBounded
pub use Rattle.run_finds.specs.Capacities as FindsCapacities
pub use Rattle.run_finds.specs.Doing as FindsDoing
pub use Rattle.run_finds.specs.Events as FindsEvents
pub use Rattle.run_finds.specs.Given.EffectsDeclared
pub use Rattle.run_finds.specs.Given.EffectsEffects
pub use Rattle.run_finds.specs.Given.EffectsKnown
pub use Rattle.run_finds.specs.Given.FollowsBlocks
pub use Rattle.run_finds.specs.Given.FollowsCalling
pub use Rattle.run_finds.specs.Given.FollowsCalls
pub use Rattle.run_finds.specs.Given.FollowsMaps
pub use Rattle.run_finds.specs.Given.FollowsShows
pub use Rattle.run_finds.specs.Given.HistoriesAnswers
pub use Rattle.run_finds.specs.Given.OthersAfter
pub use Rattle.run_finds.specs.Given.OthersWalks
pub use Rattle.run_finds.specs.Given.PromisesShelters
pub use Rattle.run_finds.specs.Given.RuleInWorld
pub use Rattle.run_finds.specs.Given.SettlesCounts
pub use Rattle.run_finds.specs.Given.SettlesOwing
pub use Rattle.run_finds.specs.Given.ShardsShardWords
pub use Rattle.run_finds.specs.Given.TellerTells
pub use Rattle.run_finds.specs.Given.TellsSeen
pub use Rattle.run_finds.specs.Life as FindsLife
pub use Rattle.run_finds.specs.Linking as FindsLinking
pub use Rattle.run_finds.specs.Little as FindsLittle
pub use Rattle.run_finds.specs.Parts as FindsParts
pub use Rattle.run_finds.specs.Tables as FindsTables
pub use Rattle.run_finds.specs.TornDown as FindsTornDown
pub use Rattle.run_finds.specs.Waiting as FindsWaiting
pub use Rattle.run_finds.specs.Within as FindsWithin
pub use Rattle.run_kept.specs.Given.HistoriesAsCalled
pub use Rattle.run_kept.specs.Given.HistoriesAsking
pub use Rattle.run_kept.specs.Given.HistoriesDue
pub use Rattle.run_kept.specs.Given.HistoriesInEvent
pub use Rattle.run_kept.specs.Given.HistoriesOtherCalls
pub use Rattle.run_kept.specs.Given.HistoriesOtherMidsts
pub use Rattle.run_kept.specs.Given.HistoriesQuestions
pub use Rattle.run_kept.specs.Given.PromisesSheltered
pub use Rattle.run_kept.specs.Given.RemainsNumbered
pub use Rattle.run_kept.specs.Given.ScenesContracts
pub use Rattle.run_kept.specs.Given.ShardsAdds
pub use Rattle.run_kept.specs.Kept.Kept as KeptKept
pub use Rattle.run_kept.specs.Models.Rows as ModelsRows
pub use Rattle.run_kept.specs.Models.Turns as ModelsTurns
pub use Rattle.run_kept.specs.Values.Values as ValuesValues
