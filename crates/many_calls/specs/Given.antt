-- The words of the crates below, given on to the crates above: these list this crate in place of those.
pub use Rattle.map_facts_late.specs.Covers as LateCovers
pub use Rattle.map_facts_late.specs.CoversSweeps as LateCoversSweeps
pub use Rattle.map_facts_late.specs.Ends as LateEnds
pub use Rattle.map_facts_late.specs.FactsReserves as LateFactsReserves
pub use Rattle.map_facts_late.specs.FactsSweeps as LateFactsSweeps
pub use Rattle.map_facts_late.specs.Faults as LateFaults
pub use Rattle.map_facts_late.specs.Given.PointsFactsAloneBlocking
pub use Rattle.map_facts_late.specs.Given.PointsFactsCalls
pub use Rattle.map_facts_late.specs.Given.PointsFactsCopies
pub use Rattle.map_facts_late.specs.Given.PointsFactsCopiesBlocking
pub use Rattle.map_facts_late.specs.Given.PointsFactsDisposes
pub use Rattle.map_facts_late.specs.Given.PointsFactsIdle
pub use Rattle.map_facts_late.specs.Given.PointsFactsLooks
pub use Rattle.map_facts_late.specs.Given.PointsFactsTables
pub use Rattle.map_facts_late.specs.Given.PointsMade
pub use Rattle.map_facts_late.specs.Given.PointsMeasures
pub use Rattle.map_facts_late.specs.Given.PointsMeasuresDisposes
pub use Rattle.map_facts_late.specs.Given.PointsMeasuresLooks
pub use Rattle.map_facts_late.specs.Given.PointsMeasuresTables
pub use Rattle.map_facts_late.specs.Given.PointsOthers
pub use Rattle.map_facts_late.specs.Given.PointsSteps
pub use Rattle.map_facts_late.specs.Given.PointsTold
pub use Rattle.map_facts_late.specs.Given.PointsToldMoves
pub use Rattle.map_facts_late.specs.Given.PointsUnlinked
pub use Rattle.map_facts_late.specs.Given.RawAnswers
pub use Rattle.map_facts_late.specs.Given.RawCall
pub use Rattle.map_facts_late.specs.Given.RawCallAsks
pub use Rattle.map_facts_late.specs.Given.RawCallFills
pub use Rattle.map_facts_late.specs.Given.RawCallPoints
pub use Rattle.map_facts_late.specs.Given.RawDeclared
pub use Rattle.map_facts_late.specs.Given.RawEndMap
pub use Rattle.map_facts_late.specs.Given.RawMachine
pub use Rattle.map_facts_late.specs.Given.RawProgress
pub use Rattle.map_facts_late.specs.Given.RawReplies
pub use Rattle.map_facts_late.specs.Given.ReservesDeclared
pub use Rattle.map_facts_late.specs.Given.ReservesReserve
pub use Rattle.map_facts_late.specs.Given.ResizeCopier
pub use Rattle.map_facts_late.specs.Given.ResizeCopierClaims
pub use Rattle.map_facts_late.specs.Given.ResizeCopierCounts
pub use Rattle.map_facts_late.specs.Given.ResizeCopierFurther
pub use Rattle.map_facts_late.specs.Given.ResizeCopierMarks
pub use Rattle.map_facts_late.specs.Given.ResizeCopierPlaces
pub use Rattle.map_facts_late.specs.Given.ResizeCopierPromotes
pub use Rattle.map_facts_late.specs.Given.ResizeCopierStates
pub use Rattle.map_facts_late.specs.Given.ResizeDeclared
pub use Rattle.map_facts_late.specs.Given.ResizeDispose
pub use Rattle.map_facts_late.specs.Given.ResizeLookup
pub use Rattle.map_facts_late.specs.Given.ResizeNewMap
pub use Rattle.map_facts_late.specs.Given.ResizeNewTable
pub use Rattle.map_facts_late.specs.Given.ResizeSum
pub use Rattle.map_facts_late.specs.Given.RuleBeside
pub use Rattle.map_facts_late.specs.Given.RuleChart
pub use Rattle.map_facts_late.specs.Given.RuleInWorld
pub use Rattle.map_facts_late.specs.Given.RuleLasts
pub use Rattle.map_facts_late.specs.Given.RuleLinks
pub use Rattle.map_facts_late.specs.Given.RuleMaps
pub use Rattle.map_facts_late.specs.Given.RuleMoments
pub use Rattle.map_facts_late.specs.Given.RuleMoves
pub use Rattle.map_facts_late.specs.Given.RuleRule
pub use Rattle.map_facts_late.specs.Given.RuleWords
pub use Rattle.map_facts_late.specs.Given.SweepsSweep
pub use Rattle.map_facts_late.specs.Given.SweepsSweepPoints
pub use Rattle.map_facts_late.specs.Given.TablesChunks
pub use Rattle.map_facts_late.specs.Given.TablesCounts
pub use Rattle.map_facts_late.specs.Given.TablesDeclared
pub use Rattle.map_facts_late.specs.Given.TablesFinding
pub use Rattle.map_facts_late.specs.Given.TablesLengths
pub use Rattle.map_facts_late.specs.Given.TablesMarks
pub use Rattle.map_facts_late.specs.Given.TablesNodes
pub use Rattle.map_facts_late.specs.Given.TablesProbes
pub use Rattle.map_facts_late.specs.Given.TablesTablePlaces
pub use Rattle.map_facts_late.specs.Given.TablesTrials
pub use Rattle.map_facts_late.specs.Kinds as LateKinds
pub use Rattle.map_facts_late.specs.LateCalls as LateLateCalls
pub use Rattle.map_facts_late.specs.LateCopies as LateLateCopies
pub use Rattle.map_facts_late.specs.LateLooks as LateLateLooks
pub use Rattle.map_facts_late.specs.LateReserves as LateLateReserves
pub use Rattle.map_facts_late.specs.Left as LateLeft
pub use Rattle.map_facts_late.specs.RowsSweeps as LateRowsSweeps
pub use Rattle.map_facts_late.specs.ToldReserves as LateToldReserves
pub use Rattle.map_facts_late.specs.ToldSweeps as LateToldSweeps
pub use Rattle.seize_model.specs.Alone.Alone as SeizeAloneAlone
pub use Rattle.seize_model.specs.Given.SeizeDeclared
pub use Rattle.seize_model.specs.Given.SeizeFurther
pub use Rattle.seize_model.specs.Given.SeizeLaw
pub use Rattle.seize_model.specs.Given.SeizeSettle
pub use Rattle.seize_model.specs.Given.SeizeWaitingHeld
pub use Rattle.seize_model.specs.Given.SeizeWaitingSets
pub use Rattle.seize_model.specs.Given.SeizeWordsDeclared
pub use Rattle.seize_model.specs.Given.SeizeWordsMem
pub use Rattle.seize_model.specs.Given.SeizeWordsOp
pub use Rattle.seize_model.specs.Given.SeizeWordsPlan
pub use Rattle.seize_model.specs.Given.SeizeWordsWord
pub use Rattle.seize_model.specs.Given.SeizeWorld
