-- The words of the crates below, given on to the crates above: these list this crate in place of those.
pub use Rattle.map_sweeps.specs.Given.ResizeContracts
pub use Rattle.map_sweeps.specs.Given.ResizeCopier
pub use Rattle.map_sweeps.specs.Given.ResizeCopierClaims
pub use Rattle.map_sweeps.specs.Given.ResizeCopierCounts
pub use Rattle.map_sweeps.specs.Given.ResizeCopierFurther
pub use Rattle.map_sweeps.specs.Given.ResizeCopierMarks
pub use Rattle.map_sweeps.specs.Given.ResizeCopierPlaces
pub use Rattle.map_sweeps.specs.Given.ResizeCopierPromotes
pub use Rattle.map_sweeps.specs.Given.ResizeCopierStates
pub use Rattle.map_sweeps.specs.Given.ResizeDispose
pub use Rattle.map_sweeps.specs.Given.ResizeLookup
pub use Rattle.map_sweeps.specs.Given.SeizeDeclared
pub use Rattle.map_sweeps.specs.Given.SeizeDefer
pub use Rattle.map_sweeps.specs.Given.SeizeEnter
pub use Rattle.map_sweeps.specs.Given.SeizeLaw
pub use Rattle.map_sweeps.specs.Given.SeizeLeave
pub use Rattle.map_sweeps.specs.Given.SeizeReclaimAll
pub use Rattle.map_sweeps.specs.Given.SeizeRegister
pub use Rattle.map_sweeps.specs.Given.SeizeSequence
pub use Rattle.map_sweeps.specs.Given.SeizeSettle
pub use Rattle.map_sweeps.specs.Given.SeizeWaitingSets
pub use Rattle.map_sweeps.specs.Given.SeizeWorld
pub use Rattle.map_sweeps.specs.Given.TablesChunks
pub use Rattle.map_sweeps.specs.Given.TablesCounts
pub use Rattle.map_sweeps.specs.Given.TablesDeclared
pub use Rattle.map_sweeps.specs.Given.TablesFinding
pub use Rattle.map_sweeps.specs.Given.TablesLengths
pub use Rattle.map_sweeps.specs.Given.TablesMarks
pub use Rattle.map_sweeps.specs.Given.TablesNodes
pub use Rattle.map_sweeps.specs.Given.TablesPowers
pub use Rattle.map_sweeps.specs.Given.TablesProbes
pub use Rattle.map_sweeps.specs.Given.TablesTablePlaces
pub use Rattle.map_sweeps.specs.Given.TablesTrials
pub use Rattle.map_sweeps.specs.Reserves.Reserve as ReservesReserve
pub use Rattle.map_sweeps.specs.Sweeps.Sweep as SweepsSweep
pub use Rattle.map_sweeps.specs.Sweeps.SweepPoints as SweepsSweepPoints
pub use Rattle.map_sweeps.specs.contracts as ReservesContracts
pub use Rattle.map_sweeps.specs.declared as ReservesDeclared
