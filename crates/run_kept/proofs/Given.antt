-- What is so by the crates below, given on to the crates above: these list this crate in place of those.
pub use Rattle.run_blocks.proofs.Given.HistoriesAnyCall
pub use Rattle.run_blocks.proofs.Given.HistoriesAsking
pub use Rattle.run_blocks.proofs.Given.HistoriesCalling
pub use Rattle.run_blocks.proofs.Given.HistoriesDue
pub use Rattle.run_blocks.proofs.Given.HistoriesDueOn
pub use Rattle.run_blocks.proofs.Given.HistoriesNoKey
pub use Rattle.run_blocks.proofs.Given.HistoriesOtherCalls
pub use Rattle.run_blocks.proofs.Given.HistoriesOtherMidsts
pub use Rattle.run_blocks.proofs.Given.HistoriesQuestions
pub use Rattle.run_blocks.proofs.Given.HistoriesRefusals
pub use Rattle.run_blocks.proofs.Given.HistoriesRetaining
pub use Rattle.run_blocks.proofs.Given.HistoriesSeveral
pub use Rattle.run_blocks.proofs.Given.PromisesBrief
pub use Rattle.run_blocks.proofs.Given.PromisesGuards
pub use Rattle.run_blocks.proofs.Given.PromisesProtected
pub use Rattle.run_blocks.proofs.Given.PromisesShelters
pub use Rattle.run_blocks.proofs.Given.PromisesWeights
pub use Rattle.run_blocks.proofs.Given.ReclaimsLeft
pub use Rattle.run_blocks.proofs.Given.SettlesEntryScenes
pub use Rattle.run_blocks.proofs.Given.SettlesGains
pub use Rattle.run_blocks.proofs.Given.SettlesHand
pub use Rattle.run_blocks.proofs.Given.SettlesOwing
pub use Rattle.run_blocks.proofs.Given.WaitsCallPlans
pub use Rattle.run_blocks.proofs.Given.WaitsCopyings
pub use Rattle.run_blocks.proofs.Given.WaitsLaws
pub use Rattle.run_blocks.proofs.Given.WaitsNever
pub use Rattle.run_blocks.proofs.Owes.Calls as OwesCalls
pub use Rattle.run_blocks.proofs.Owes.Clear as OwesClear
pub use Rattle.run_blocks.proofs.Owes.Events as OwesEvents
pub use Rattle.run_blocks.proofs.Owes.Grown as OwesGrown
pub use Rattle.run_blocks.proofs.Owes.InHand as OwesInHand
pub use Rattle.run_blocks.proofs.Owes.Kept as OwesKept
pub use Rattle.run_blocks.proofs.Owes.Lasting as OwesLasting
pub use Rattle.run_blocks.proofs.Owes.Looking as OwesLooking
pub use Rattle.run_blocks.proofs.Owes.Ready as OwesReady
pub use Rattle.run_blocks.proofs.Owes.Short as OwesShort
pub use Rattle.run_blocks.proofs.Owes.Tables as OwesTables
pub use Rattle.run_blocks.proofs.Owes.Walks as OwesWalks
pub use Rattle.run_blocks.proofs.Shards.ShardBetween as ShardsShardBetween
pub use Rattle.run_blocks.proofs.Shards.ShardKept as ShardsShardKept
pub use Rattle.run_blocks.proofs.Shards.ShardMakes as ShardsShardMakes
pub use Rattle.run_blocks.proofs.Shards.ShardNumbers as ShardsShardNumbers
pub use Rattle.run_blocks.proofs.Shards.ShardOthers as ShardsShardOthers
pub use Rattle.run_executor.proofs.Given.FinishesAmong
pub use Rattle.run_executor.proofs.Given.FollowsCalling
pub use Rattle.run_executor.proofs.Given.FollowsCalls
pub use Rattle.run_executor.proofs.Given.FollowsContents
pub use Rattle.run_executor.proofs.Given.FollowsOfEach
pub use Rattle.run_executor.proofs.Given.FollowsSteps
pub use Rattle.run_executor.proofs.Given.OthersLeads
pub use Rattle.run_executor.proofs.Given.OthersMakingGoes
pub use Rattle.run_executor.proofs.Given.OthersOutcomes
pub use Rattle.run_executor.proofs.Given.RuleLaws
pub use Rattle.run_executor.proofs.Given.ScenesLeads
pub use Rattle.run_executor.proofs.Given.ScenesMay
pub use Rattle.run_executor.proofs.Given.ScenesNoCall
pub use Rattle.run_executor.proofs.Given.ScenesRows
pub use Rattle.run_executor.proofs.Given.ScenesTold
pub use Rattle.run_waiting.proofs.Given.MapsBegins
pub use Rattle.run_waiting.proofs.Given.MapsEnds
pub use Rattle.run_waiting.proofs.Given.SettlesEntryUsers
pub use Rattle.run_waiting.proofs.Given.SettlesEntryWorlds
pub use Rattle.run_waiting.proofs.Given.SettlesPassed
pub use Rattle.run_waiting.proofs.Given.SettlesUncounted
pub use Rattle.run_waiting.proofs.Lives.Each as LivesEach
pub use Rattle.run_waiting.proofs.Lives.HandedMeant as LivesHandedMeant
pub use Rattle.run_waiting.proofs.Lives.HandedRows as LivesHandedRows
pub use Rattle.run_waiting.proofs.Lives.InUse as LivesInUse
pub use Rattle.run_waiting.proofs.Lives.LeftTables as LivesLeftTables
pub use Rattle.run_waiting.proofs.Lives.Order as LivesOrder
pub use Rattle.run_waiting.proofs.Lives.OrderEnds as LivesOrderEnds
pub use Rattle.run_waiting.proofs.Lives.Reclaimed as LivesReclaimed
pub use Rattle.run_waiting.proofs.Lives.RetiredCalls as LivesRetiredCalls
pub use Rattle.run_waiting.proofs.Lives.Retires as LivesRetires
pub use Rattle.run_waiting.proofs.Lives.Rows as LivesRows
pub use Rattle.run_waiting.proofs.Lives.Worlds as LivesWorlds
pub use Rattle.run_waiting.proofs.Remains.Endings as RemainsEndings
pub use Rattle.run_waiting.proofs.Remains.InOrder as RemainsInOrder
pub use Rattle.run_waiting.proofs.Remains.Leads as RemainsLeads
pub use Rattle.run_waiting.proofs.Remains.Lists as RemainsLists
pub use Rattle.run_waiting.proofs.Remains.Makings as RemainsMakings
pub use Rattle.run_waiting.proofs.Remains.Maps as RemainsMaps
pub use Rattle.run_waiting.proofs.Remains.Numbered as RemainsNumbered
pub use Rattle.run_waiting.proofs.Remains.Rests as RemainsRests
pub use Rattle.run_waiting.proofs.Remains.Slots as RemainsSlots
pub use Rattle.run_waiting.proofs.Remains.Stays as RemainsStays
pub use Rattle.run_waiting.proofs.Remains.Steps as RemainsSteps
