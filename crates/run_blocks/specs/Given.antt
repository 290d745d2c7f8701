-- The words of the crates below, given on to the crates above: these list this crate in place of those.
pub use Rattle.owner_calls.specs.Given.ResizeCopier
pub use Rattle.owner_calls.specs.Given.ResizeCopierClaims
pub use Rattle.owner_calls.specs.Given.ResizeCopierCounts
pub use Rattle.owner_calls.specs.Given.ResizeCopierFurther
pub use Rattle.owner_calls.specs.Given.ResizeCopierMarks
pub use Rattle.owner_calls.specs.Given.ResizeCopierPlaces
pub use Rattle.owner_calls.specs.Given.ResizeCopierPromotes
pub use Rattle.owner_calls.specs.Given.ResizeCopierStates
pub use Rattle.owner_calls.specs.Given.ResizeDeclared
pub use Rattle.owner_calls.specs.Given.ResizeDispose
pub use Rattle.owner_calls.specs.Given.ResizeLookup
pub use Rattle.owner_calls.specs.Given.ResizeNewTable
pub use Rattle.owner_calls.specs.Given.ResizeSum
pub use Rattle.owner_calls.specs.Given.TablesCounts
pub use Rattle.owner_calls.specs.Given.TablesFinding
pub use Rattle.owner_calls.specs.Given.TablesLengths
pub use Rattle.owner_calls.specs.Given.TablesMarks
pub use Rattle.owner_calls.specs.Given.TablesPowers
pub use Rattle.owner_calls.specs.Given.TablesProbes
pub use Rattle.owner_calls.specs.Given.TablesTablePlaces
pub use Rattle.owner_calls.specs.Given.TablesTrials
pub use Rattle.owner_calls.specs.Given.WaitersBlocking
pub use Rattle.owner_calls.specs.Given.WaitsOthers
pub use Rattle.owner_calls.specs.Given.WaitsWaits
pub use Rattle.run_debts.specs.Counts as SettlesCounts
pub use Rattle.run_debts.specs.Due as SettlesDue
pub use Rattle.run_debts.specs.Entries as SettlesEntries
pub use Rattle.run_debts.specs.Given.ReclaimsLeft
pub use Rattle.run_debts.specs.Given.ResizeNewMap
pub use Rattle.run_debts.specs.Given.TablesChunks
pub use Rattle.run_debts.specs.Given.TablesDeclared
pub use Rattle.run_debts.specs.Given.TablesNodes
pub use Rattle.run_debts.specs.Given.TellerChanged
pub use Rattle.run_debts.specs.Hand as SettlesHand
pub use Rattle.run_debts.specs.Handing as SettlesHanding
pub use Rattle.run_debts.specs.InHand as SettlesInHand
pub use Rattle.run_debts.specs.Owed as SettlesOwed
pub use Rattle.run_debts.specs.Owing as SettlesOwing
pub use Rattle.run_debts.specs.Shards as SettlesShards
pub use Rattle.run_histories.specs.Histories.Answers as HistoriesAnswers
pub use Rattle.run_histories.specs.Histories.AsCalled as HistoriesAsCalled
pub use Rattle.run_histories.specs.Histories.Asking as HistoriesAsking
pub use Rattle.run_histories.specs.Histories.Due as HistoriesDue
pub use Rattle.run_histories.specs.Histories.Elsewhere as HistoriesElsewhere
pub use Rattle.run_histories.specs.Histories.Events as HistoriesEvents
pub use Rattle.run_histories.specs.Histories.InEvent as HistoriesInEvent
pub use Rattle.run_histories.specs.Histories.OtherCalls as HistoriesOtherCalls
pub use Rattle.run_histories.specs.Histories.OtherMidsts as HistoriesOtherMidsts
pub use Rattle.run_histories.specs.Histories.Questions as HistoriesQuestions
pub use Rattle.run_histories.specs.Histories.Several as HistoriesSeveral
pub use Rattle.run_histories.specs.Promises.Guards as PromisesGuards
pub use Rattle.run_histories.specs.Promises.Meanwhile as PromisesMeanwhile
pub use Rattle.run_histories.specs.Promises.Others as PromisesOthers
pub use Rattle.run_histories.specs.Promises.Protected as PromisesProtected
pub use Rattle.run_histories.specs.Promises.Reading as PromisesReading
pub use Rattle.run_histories.specs.Promises.Sheltered as PromisesSheltered
pub use Rattle.run_histories.specs.Promises.Shelters as PromisesShelters
pub use Rattle.run_histories.specs.Promises.Weights as PromisesWeights
