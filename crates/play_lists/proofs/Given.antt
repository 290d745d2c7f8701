-- What is so by the crates below, given on to the crates above: these list this crate in place of those.
pub use Rattle.many_acts.proofs.Acts.AsSteps as ActsAsSteps
pub use Rattle.many_acts.proofs.Acts.Calls as ActsCalls
pub use Rattle.many_acts.proofs.Acts.Further as ActsFurther
pub use Rattle.many_acts.proofs.Acts.Lists as ActsLists
pub use Rattle.many_acts.proofs.Given.FinishesEnds
pub use Rattle.many_acts.proofs.Given.FollowsCalling
pub use Rattle.many_acts.proofs.Given.FollowsCalls
pub use Rattle.many_acts.proofs.Given.FollowsTold
pub use Rattle.many_acts.proofs.Given.OthersElsewhere
pub use Rattle.many_acts.proofs.Given.OthersEndBegins
pub use Rattle.many_acts.proofs.Given.OthersEnds
pub use Rattle.many_acts.proofs.Given.OthersMakingGoes
pub use Rattle.many_acts.proofs.Given.OthersRowPlans
pub use Rattle.many_acts.proofs.Given.OthersStays
pub use Rattle.many_acts.proofs.Given.ScenesGoes
pub use Rattle.many_acts.proofs.Given.ScenesMay
pub use Rattle.many_acts.proofs.Given.ScenesNoCall
pub use Rattle.map_tables.proofs.Logarithms as TablesLogarithms
pub use Rattle.run_finds.proofs.Begun as FindsBegun
pub use Rattle.run_finds.proofs.Capacities as FindsCapacities
pub use Rattle.run_finds.proofs.Endings as FindsEndings
pub use Rattle.run_finds.proofs.Events as FindsEvents
pub use Rattle.run_finds.proofs.Given.FollowsAlike
pub use Rattle.run_finds.proofs.Given.FollowsContents
pub use Rattle.run_finds.proofs.Given.FollowsFinds
pub use Rattle.run_finds.proofs.Given.FollowsOperations
pub use Rattle.run_finds.proofs.Given.HistoriesAside
pub use Rattle.run_finds.proofs.Given.HistoriesAsking
pub use Rattle.run_finds.proofs.Given.HistoriesCalling
pub use Rattle.run_finds.proofs.Given.HistoriesNoKey
pub use Rattle.run_finds.proofs.Given.PromisesLists
pub use Rattle.run_finds.proofs.Given.RuleKeys
pub use Rattle.run_finds.proofs.Given.RuleLaws
pub use Rattle.run_finds.proofs.Given.ScenesTold
pub use Rattle.run_finds.proofs.Given.SettlesBetween
pub use Rattle.run_finds.proofs.Given.SettlesCalls
pub use Rattle.run_finds.proofs.Given.ShardsAdds
pub use Rattle.run_finds.proofs.Given.ShardsKeyAdds
pub use Rattle.run_finds.proofs.Given.ShardsRestAdds
pub use Rattle.run_finds.proofs.Given.ShardsShardCalls
pub use Rattle.run_finds.proofs.Grown as FindsGrown
pub use Rattle.run_finds.proofs.Grows as FindsGrows
pub use Rattle.run_finds.proofs.Joined as FindsJoined
pub use Rattle.run_finds.proofs.Life as FindsLife
pub use Rattle.run_finds.proofs.Lists as FindsLists
pub use Rattle.run_finds.proofs.Over as FindsOver
pub use Rattle.run_finds.proofs.Runs as FindsRuns
pub use Rattle.run_finds.proofs.Somewhere as FindsSomewhere
pub use Rattle.run_finds.proofs.Steps as FindsSteps
pub use Rattle.run_finds.proofs.Tables as FindsTables
pub use Rattle.run_kept.proofs.Given.FinishesAmong
pub use Rattle.run_kept.proofs.Given.HistoriesAnyCall
pub use Rattle.run_kept.proofs.Given.HistoriesDue
pub use Rattle.run_kept.proofs.Given.HistoriesDueOn
pub use Rattle.run_kept.proofs.Given.HistoriesOtherCalls
pub use Rattle.run_kept.proofs.Given.HistoriesOtherMidsts
pub use Rattle.run_kept.proofs.Given.HistoriesQuestions
pub use Rattle.run_kept.proofs.Given.HistoriesRetaining
pub use Rattle.run_kept.proofs.Given.PromisesShelters
pub use Rattle.run_kept.proofs.Given.ReclaimsLeft
pub use Rattle.run_kept.proofs.Given.RemainsInOrder
pub use Rattle.run_kept.proofs.Given.RemainsNumbered
pub use Rattle.run_kept.proofs.Given.RemainsRests
pub use Rattle.run_kept.proofs.Given.SettlesGains
pub use Rattle.run_kept.proofs.Given.SettlesOwing
pub use Rattle.run_kept.proofs.Given.SettlesUncounted
pub use Rattle.run_kept.proofs.Given.ShardsShardBetween
pub use Rattle.run_kept.proofs.Given.ShardsShardKept
pub use Rattle.run_kept.proofs.Given.ShardsShardMakes
pub use Rattle.run_kept.proofs.Given.ShardsShardNumbers
pub use Rattle.run_kept.proofs.Given.ShardsShardOthers
pub use Rattle.run_kept.proofs.Kept.Between as KeptBetween
pub use Rattle.run_kept.proofs.Kept.Calls as KeptCalls
pub use Rattle.run_kept.proofs.Kept.Others as KeptOthers
pub use Rattle.run_kept.proofs.Kept.Stays as KeptStays
pub use Rattle.run_kept.proofs.Models.Quiet as ModelsQuiet
pub use Rattle.run_kept.proofs.Models.Rows as ModelsRows
pub use Rattle.run_kept.proofs.Sheds.EndLists as ShedsEndLists
pub use Rattle.run_kept.proofs.Sheds.EndOrder as ShedsEndOrder
pub use Rattle.run_kept.proofs.Sheds.Held as ShedsHeld
pub use Rattle.run_kept.proofs.Sheds.KeptGiven as ShedsKeptGiven
pub use Rattle.run_kept.proofs.Sheds.LeftNoted as ShedsLeftNoted
pub use Rattle.run_kept.proofs.Sheds.Reclaiming as ShedsReclaiming
pub use Rattle.run_kept.proofs.Told
pub use Rattle.run_kept.proofs.Values.Values as ValuesValues
