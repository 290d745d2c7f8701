-- What is so by the crates below, given on to the crates above: these list this crate in place of those.
pub use Rattle.owner_calls.proofs.Given.SeizeAloneLaws
pub use Rattle.owner_calls.proofs.Given.WaitersBeginsSweeps
pub use Rattle.owner_calls.proofs.Given.WaitersCalls
pub use Rattle.owner_calls.proofs.Given.WaitersLikes
pub use Rattle.owner_calls.proofs.Given.WaitersRowsFresh
pub use Rattle.owner_calls.proofs.Given.WaitsCallPlans
pub use Rattle.owner_calls.proofs.Given.WaitsCallsEnd
pub use Rattle.owner_calls.proofs.Given.WaitsCopyings
pub use Rattle.owner_calls.proofs.Given.WaitsEndingCalls
pub use Rattle.owner_calls.proofs.Given.WaitsLaws
pub use Rattle.owner_calls.proofs.Given.WaitsNever
pub use Rattle.owner_calls.proofs.Given.WaitsRoomsEnd
pub use Rattle.run_debts.proofs.Between as SettlesBetween
pub use Rattle.run_debts.proofs.Calls as SettlesCalls
pub use Rattle.run_debts.proofs.DueCalls as SettlesDueCalls
pub use Rattle.run_debts.proofs.EntryScenes as SettlesEntryScenes
pub use Rattle.run_debts.proofs.Gains as SettlesGains
pub use Rattle.run_debts.proofs.Given.CallersRows
pub use Rattle.run_debts.proofs.Given.FinishesBeside
pub use Rattle.run_debts.proofs.Given.OthersEnds
pub use Rattle.run_debts.proofs.Given.OthersQuiet
pub use Rattle.run_debts.proofs.Given.ReclaimsLeft
pub use Rattle.run_debts.proofs.Given.ScenesBetween
pub use Rattle.run_debts.proofs.Given.SeizeMovesSets
pub use Rattle.run_debts.proofs.Hand as SettlesHand
pub use Rattle.run_debts.proofs.Handing as SettlesHanding
pub use Rattle.run_debts.proofs.Keys as SettlesKeys
pub use Rattle.run_debts.proofs.Owing as SettlesOwing
pub use Rattle.run_debts.proofs.Rest as SettlesRest
pub use Rattle.run_debts.proofs.Shards as SettlesShards
pub use Rattle.run_debts.proofs.Taken as SettlesTaken
pub use Rattle.run_debts.proofs.Takings as SettlesTakings
pub use Rattle.run_histories.proofs.Histories.AnyCall as HistoriesAnyCall
pub use Rattle.run_histories.proofs.Histories.Aside as HistoriesAside
pub use Rattle.run_histories.proofs.Histories.Asking as HistoriesAsking
pub use Rattle.run_histories.proofs.Histories.Calling as HistoriesCalling
pub use Rattle.run_histories.proofs.Histories.Due as HistoriesDue
pub use Rattle.run_histories.proofs.Histories.DueOn as HistoriesDueOn
pub use Rattle.run_histories.proofs.Histories.NoKey as HistoriesNoKey
pub use Rattle.run_histories.proofs.Histories.OtherCalls as HistoriesOtherCalls
pub use Rattle.run_histories.proofs.Histories.OtherMidsts as HistoriesOtherMidsts
pub use Rattle.run_histories.proofs.Histories.Questions as HistoriesQuestions
pub use Rattle.run_histories.proofs.Histories.Refusals as HistoriesRefusals
pub use Rattle.run_histories.proofs.Histories.Retaining as HistoriesRetaining
pub use Rattle.run_histories.proofs.Histories.Roles as HistoriesRoles
pub use Rattle.run_histories.proofs.Histories.Several as HistoriesSeveral
pub use Rattle.run_histories.proofs.Promises.Brief as PromisesBrief
pub use Rattle.run_histories.proofs.Promises.Guards as PromisesGuards
pub use Rattle.run_histories.proofs.Promises.Lists as PromisesLists
pub use Rattle.run_histories.proofs.Promises.Protected as PromisesProtected
pub use Rattle.run_histories.proofs.Promises.Shelters as PromisesShelters
pub use Rattle.run_histories.proofs.Promises.Weights as PromisesWeights
