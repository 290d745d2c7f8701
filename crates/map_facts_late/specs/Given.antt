-- The words of the crates below, given on to the crates above: these list this crate in place of those.
pub use Rattle.map_facts.specs.FactsAloneBlocking as PointsFactsAloneBlocking
pub use Rattle.map_facts.specs.FactsCalls as PointsFactsCalls
pub use Rattle.map_facts.specs.FactsCopies as PointsFactsCopies
pub use Rattle.map_facts.specs.FactsCopiesBlocking as PointsFactsCopiesBlocking
pub use Rattle.map_facts.specs.FactsDisposes as PointsFactsDisposes
pub use Rattle.map_facts.specs.FactsIdle as PointsFactsIdle
pub use Rattle.map_facts.specs.FactsLooks as PointsFactsLooks
pub use Rattle.map_facts.specs.FactsTables as PointsFactsTables
pub use Rattle.map_facts.specs.Given.RawAnswers
pub use Rattle.map_facts.specs.Given.RawCall
pub use Rattle.map_facts.specs.Given.RawCallAsks
pub use Rattle.map_facts.specs.Given.RawCallFills
pub use Rattle.map_facts.specs.Given.RawCallPoints
pub use Rattle.map_facts.specs.Given.RawDeclared
pub use Rattle.map_facts.specs.Given.RawEndMap
pub use Rattle.map_facts.specs.Given.RawMachine
pub use Rattle.map_facts.specs.Given.RawProgress
pub use Rattle.map_facts.specs.Given.RawReplies
pub use Rattle.map_facts.specs.Given.ReservesDeclared
pub use Rattle.map_facts.specs.Given.ReservesReserve
pub use Rattle.map_facts.specs.Given.ResizeCopier
pub use Rattle.map_facts.specs.Given.ResizeCopierClaims
pub use Rattle.map_facts.specs.Given.ResizeCopierCounts
pub use Rattle.map_facts.specs.Given.ResizeCopierFurther
pub use Rattle.map_facts.specs.Given.ResizeCopierMarks
pub use Rattle.map_facts.specs.Given.ResizeCopierPlaces
pub use Rattle.map_facts.specs.Given.ResizeCopierPromotes
pub use Rattle.map_facts.specs.Given.ResizeCopierStates
pub use Rattle.map_facts.specs.Given.ResizeDeclared
pub use Rattle.map_facts.specs.Given.ResizeDispose
pub use Rattle.map_facts.specs.Given.ResizeLookup
pub use Rattle.map_facts.specs.Given.ResizeNewMap
pub use Rattle.map_facts.specs.Given.ResizeNewTable
pub use Rattle.map_facts.specs.Given.ResizeSum
pub use Rattle.map_facts.specs.Given.RuleBeside
pub use Rattle.map_facts.specs.Given.RuleChart
pub use Rattle.map_facts.specs.Given.RuleCounters
pub use Rattle.map_facts.specs.Given.RuleInWorld
pub use Rattle.map_facts.specs.Given.RuleLasts
pub use Rattle.map_facts.specs.Given.RuleLinks
pub use Rattle.map_facts.specs.Given.RuleMaps
pub use Rattle.map_facts.specs.Given.RuleMoments
pub use Rattle.map_facts.specs.Given.RuleMoves
pub use Rattle.map_facts.specs.Given.RuleRule
pub use Rattle.map_facts.specs.Given.RuleWords
pub use Rattle.map_facts.specs.Given.SweepsSweep
pub use Rattle.map_facts.specs.Given.SweepsSweepPoints
pub use Rattle.map_facts.specs.Given.TablesChunks
pub use Rattle.map_facts.specs.Given.TablesCounts
pub use Rattle.map_facts.specs.Given.TablesDeclared
pub use Rattle.map_facts.specs.Given.TablesFinding
pub use Rattle.map_facts.specs.Given.TablesLengths
pub use Rattle.map_facts.specs.Given.TablesMarks
pub use Rattle.map_facts.specs.Given.TablesNodes
pub use Rattle.map_facts.specs.Given.TablesProbes
pub use Rattle.map_facts.specs.Given.TablesTablePlaces
pub use Rattle.map_facts.specs.Given.TablesTrials
pub use Rattle.map_facts.specs.Made as PointsMade
pub use Rattle.map_facts.specs.Measures as PointsMeasures
pub use Rattle.map_facts.specs.MeasuresDisposes as PointsMeasuresDisposes
pub use Rattle.map_facts.specs.MeasuresLooks as PointsMeasuresLooks
pub use Rattle.map_facts.specs.MeasuresTables as PointsMeasuresTables
pub use Rattle.map_facts.specs.Others as PointsOthers
pub use Rattle.map_facts.specs.Steps as PointsSteps
pub use Rattle.map_facts.specs.Told as PointsTold
pub use Rattle.map_facts.specs.ToldMoves as PointsToldMoves
pub use Rattle.map_facts.specs.Unlinked as PointsUnlinked
