-- The words of the crates below, given on to the crates above: these list this crate in place of those.
pub use Rattle.map_tables.specs.Chunks as TablesChunks
pub use Rattle.map_tables.specs.Counts as TablesCounts
pub use Rattle.map_tables.specs.Finding as TablesFinding
pub use Rattle.seize.specs.declared as SeizeDeclared
pub use Rattle.seize.specs.Defer as SeizeDefer
pub use Rattle.seize.specs.Enter as SeizeEnter
pub use Rattle.seize.specs.Law as SeizeLaw
pub use Rattle.seize.specs.Leave as SeizeLeave
pub use Rattle.seize.specs.ReclaimAll as SeizeReclaimAll
pub use Rattle.seize.specs.Register as SeizeRegister
pub use Rattle.seize.specs.Sequence as SeizeSequence
pub use Rattle.seize.specs.Settle as SeizeSettle
pub use Rattle.seize.specs.WaitingSets as SeizeWaitingSets
pub use Rattle.map_tables.specs.Given.SeizeWordsDeclared
pub use Rattle.map_tables.specs.Given.SeizeWordsMem
pub use Rattle.map_tables.specs.Given.SeizeWordsOp
pub use Rattle.map_tables.specs.Given.SeizeWordsPlan
pub use Rattle.map_tables.specs.Given.SeizeWordsWord
pub use Rattle.seize.specs.World as SeizeWorld
pub use Rattle.map_tables.specs.Lengths as TablesLengths
pub use Rattle.map_tables.specs.Marks as TablesMarks
pub use Rattle.map_tables.specs.Nodes as TablesNodes
pub use Rattle.map_tables.specs.Powers as TablesPowers
pub use Rattle.map_tables.specs.Probes as TablesProbes
pub use Rattle.map_tables.specs.TablePlaces as TablesTablePlaces
pub use Rattle.map_tables.specs.Trials as TablesTrials
pub use Rattle.map_tables.specs.declared as TablesDeclared
