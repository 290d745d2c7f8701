-- The words of the crates below, given on to the crates above: these list this crate in place of those.
pub use Rattle.papaya_raw.specs.Call as RawCall
pub use Rattle.papaya_raw.specs.CallAsks as RawCallAsks
pub use Rattle.papaya_raw.specs.CallFills as RawCallFills
pub use Rattle.papaya_raw.specs.CallPoints as RawCallPoints
pub use Rattle.papaya_raw.specs.EndMap as RawEndMap
pub use Rattle.papaya_raw.specs.Given.ReservesDeclared
pub use Rattle.papaya_raw.specs.Given.ReservesReserve
pub use Rattle.papaya_raw.specs.Given.SweepsSweep
pub use Rattle.papaya_raw.specs.Given.SweepsSweepPoints
pub use Rattle.papaya_raw.specs.Given.TablesChunks
pub use Rattle.papaya_raw.specs.Given.TablesDeclared
pub use Rattle.papaya_raw.specs.Given.TablesFinding
pub use Rattle.papaya_raw.specs.Given.TablesNodes
pub use Rattle.papaya_raw.specs.Given.TablesPowers
pub use Rattle.papaya_raw.specs.Given.TablesTablePlaces
pub use Rattle.papaya_raw.specs.Given.TablesTrials
pub use Rattle.papaya_raw.specs.Machine as RawMachine
pub use Rattle.papaya_raw.specs.Progress as RawProgress
pub use Rattle.papaya_raw.specs.Replies as RawReplies
pub use Rattle.papaya_raw.specs.declared as RawDeclared
pub use Rattle.seize_words.specs.OneMemory.Fault as SeizeWordsFault
pub use Rattle.seize_words.specs.OneMemory.Mem as SeizeWordsMem
pub use Rattle.seize_words.specs.OneMemory.Op as SeizeWordsOp
pub use Rattle.seize_words.specs.OneMemory.Place as SeizeWordsPlace
pub use Rattle.seize_words.specs.OneMemory.Plan as SeizeWordsPlan
pub use Rattle.seize_words.specs.OneMemory.SlotWords as SeizeWordsSlotWords
pub use Rattle.seize_words.specs.OneMemory.Word as SeizeWordsWord
pub use Rattle.seize_words.specs.declared as SeizeWordsDeclared
