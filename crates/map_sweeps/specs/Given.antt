-- The words of the crates below, given on to the crates above: these list this crate in place of those.
pub use Rattle.map_machines.specs.Copier as ResizeCopier
pub use Rattle.map_machines.specs.CopierClaims as ResizeCopierClaims
pub use Rattle.map_machines.specs.CopierCounts as ResizeCopierCounts
pub use Rattle.map_machines.specs.CopierFurther as ResizeCopierFurther
pub use Rattle.map_machines.specs.CopierMarks as ResizeCopierMarks
pub use Rattle.map_machines.specs.CopierPlaces as ResizeCopierPlaces
pub use Rattle.map_machines.specs.CopierPromotes as ResizeCopierPromotes
pub use Rattle.map_machines.specs.CopierStates as ResizeCopierStates
pub use Rattle.map_machines.specs.Dispose as ResizeDispose
pub use Rattle.map_machines.specs.Given.SeizeDeclared
pub use Rattle.map_machines.specs.Given.SeizeDefer
pub use Rattle.map_machines.specs.Given.SeizeEnter
pub use Rattle.map_machines.specs.Given.SeizeLaw
pub use Rattle.map_machines.specs.Given.SeizeLeave
pub use Rattle.map_machines.specs.Given.SeizeReclaimAll
pub use Rattle.map_machines.specs.Given.SeizeRegister
pub use Rattle.map_machines.specs.Given.SeizeSequence
pub use Rattle.map_machines.specs.Given.SeizeSettle
pub use Rattle.map_machines.specs.Given.SeizeWaitingSets
pub use Rattle.map_machines.specs.Given.SeizeWordsDeclared
pub use Rattle.map_machines.specs.Given.SeizeWordsOp
pub use Rattle.map_machines.specs.Given.SeizeWordsPlan
pub use Rattle.map_machines.specs.Given.SeizeWordsWord
pub use Rattle.map_machines.specs.Given.SeizeWorld
pub use Rattle.map_machines.specs.Given.TablesChunks
pub use Rattle.map_machines.specs.Given.TablesCounts
pub use Rattle.map_machines.specs.Given.TablesDeclared
pub use Rattle.map_machines.specs.Given.TablesFinding
pub use Rattle.map_machines.specs.Given.TablesLengths
pub use Rattle.map_machines.specs.Given.TablesMarks
pub use Rattle.map_machines.specs.Given.TablesNodes
pub use Rattle.map_machines.specs.Given.TablesPowers
pub use Rattle.map_machines.specs.Given.TablesProbes
pub use Rattle.map_machines.specs.Given.TablesTablePlaces
pub use Rattle.map_machines.specs.Given.TablesTrials
pub use Rattle.map_machines.specs.Lookup as ResizeLookup
pub use Rattle.map_machines.specs.NewTable as ResizeNewTable
pub use Rattle.map_machines.specs.Sum as ResizeSum
pub use Rattle.map_machines.specs.contracts as ResizeContracts
pub use Rattle.map_machines.specs.declared as ResizeDeclared
