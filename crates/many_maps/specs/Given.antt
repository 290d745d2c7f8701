-- The words of the crates below, given on to the crates above: these list this crate in place of those.
pub use Rattle.many_calls.specs.Asked as CallersAsked
pub use Rattle.many_calls.specs.AskedOnce as CallersAskedOnce
pub use Rattle.many_calls.specs.Claims as CallersClaims
pub use Rattle.many_calls.specs.Given.LateCovers
pub use Rattle.many_calls.specs.Given.LateCoversSweeps
pub use Rattle.many_calls.specs.Given.LateEnds
pub use Rattle.many_calls.specs.Given.LateFactsReserves
pub use Rattle.many_calls.specs.Given.LateFactsSweeps
pub use Rattle.many_calls.specs.Given.LateFaults
pub use Rattle.many_calls.specs.Given.LateKinds
pub use Rattle.many_calls.specs.Given.LateLateCalls
pub use Rattle.many_calls.specs.Given.LateLateCopies
pub use Rattle.many_calls.specs.Given.LateLateLooks
pub use Rattle.many_calls.specs.Given.LateLateReserves
pub use Rattle.many_calls.specs.Given.LateLeft
pub use Rattle.many_calls.specs.Given.LateToldReserves
pub use Rattle.many_calls.specs.Given.LateToldSweeps
pub use Rattle.many_calls.specs.Given.PointsFactsAloneBlocking
pub use Rattle.many_calls.specs.Given.PointsFactsCalls
pub use Rattle.many_calls.specs.Given.PointsFactsCopies
pub use Rattle.many_calls.specs.Given.PointsFactsCopiesBlocking
pub use Rattle.many_calls.specs.Given.PointsFactsDisposes
pub use Rattle.many_calls.specs.Given.PointsFactsIdle
pub use Rattle.many_calls.specs.Given.PointsFactsLooks
pub use Rattle.many_calls.specs.Given.PointsFactsTables
pub use Rattle.many_calls.specs.Given.PointsMade
pub use Rattle.many_calls.specs.Given.PointsMeasures
pub use Rattle.many_calls.specs.Given.PointsMeasuresTables
pub use Rattle.many_calls.specs.Given.PointsOthers
pub use Rattle.many_calls.specs.Given.PointsSteps
pub use Rattle.many_calls.specs.Given.PointsTold
pub use Rattle.many_calls.specs.Given.PointsToldMoves
pub use Rattle.many_calls.specs.Given.PointsUnlinked
pub use Rattle.many_calls.specs.Given.RawAnswers
pub use Rattle.many_calls.specs.Given.RawCall
pub use Rattle.many_calls.specs.Given.RawCallFills
pub use Rattle.many_calls.specs.Given.RawCallPoints
pub use Rattle.many_calls.specs.Given.RawDeclared
pub use Rattle.many_calls.specs.Given.RawEndMap
pub use Rattle.many_calls.specs.Given.RawReplies
pub use Rattle.many_calls.specs.Given.ReservesDeclared
pub use Rattle.many_calls.specs.Given.ReservesReserve
pub use Rattle.many_calls.specs.Given.ResizeCopier
pub use Rattle.many_calls.specs.Given.ResizeCopierClaims
pub use Rattle.many_calls.specs.Given.ResizeCopierCounts
pub use Rattle.many_calls.specs.Given.ResizeCopierFurther
pub use Rattle.many_calls.specs.Given.ResizeCopierMarks
pub use Rattle.many_calls.specs.Given.ResizeCopierPlaces
pub use Rattle.many_calls.specs.Given.ResizeCopierPromotes
pub use Rattle.many_calls.specs.Given.ResizeCopierStates
pub use Rattle.many_calls.specs.Given.ResizeDeclared
pub use Rattle.many_calls.specs.Given.ResizeDispose
pub use Rattle.many_calls.specs.Given.ResizeLookup
pub use Rattle.many_calls.specs.Given.ResizeNewMap
pub use Rattle.many_calls.specs.Given.ResizeNewTable
pub use Rattle.many_calls.specs.Given.ResizeSum
pub use Rattle.many_calls.specs.Given.RuleChart
pub use Rattle.many_calls.specs.Given.RuleInWorld
pub use Rattle.many_calls.specs.Given.RuleLasts
pub use Rattle.many_calls.specs.Given.RuleLinks
pub use Rattle.many_calls.specs.Given.RuleMaps
pub use Rattle.many_calls.specs.Given.RuleMoves
pub use Rattle.many_calls.specs.Given.RuleRule
pub use Rattle.many_calls.specs.Given.RuleWords
pub use Rattle.many_calls.specs.Given.SeizeAloneAlone
pub use Rattle.many_calls.specs.Given.SeizeDeclared
pub use Rattle.many_calls.specs.Given.SeizeFurther
pub use Rattle.many_calls.specs.Given.SeizeLaw
pub use Rattle.many_calls.specs.Given.SeizeSettle
pub use Rattle.many_calls.specs.Given.SeizeWaitingHeld
pub use Rattle.many_calls.specs.Given.SeizeWordsDeclared
pub use Rattle.many_calls.specs.Given.SeizeWordsMem
pub use Rattle.many_calls.specs.Given.SeizeWordsOp
pub use Rattle.many_calls.specs.Given.SeizeWordsPlan
pub use Rattle.many_calls.specs.Given.SeizeWordsWord
pub use Rattle.many_calls.specs.Given.SeizeWorld
pub use Rattle.many_calls.specs.Given.TablesChunks
pub use Rattle.many_calls.specs.Given.TablesCounts
pub use Rattle.many_calls.specs.Given.TablesDeclared
pub use Rattle.many_calls.specs.Given.TablesFinding
pub use Rattle.many_calls.specs.Given.TablesLengths
pub use Rattle.many_calls.specs.Given.TablesMarks
pub use Rattle.many_calls.specs.Given.TablesNodes
pub use Rattle.many_calls.specs.Given.TablesProbes
pub use Rattle.many_calls.specs.Given.TablesTablePlaces
pub use Rattle.many_calls.specs.Given.TablesTrials
pub use Rattle.many_calls.specs.Kept as CallersKept
pub use Rattle.many_calls.specs.Kind as CallersKind
pub use Rattle.many_calls.specs.OverAll as CallersOverAll
pub use Rattle.many_calls.specs.Pairs as CallersPairs
pub use Rattle.many_calls.specs.Rooms as CallersRooms
pub use Rattle.many_calls.specs.Rows as CallersRows
pub use Rattle.many_calls.specs.Sights as CallersSights
pub use Rattle.many_calls.specs.Since as CallersSince
pub use Rattle.many_calls.specs.Together as CallersTogether
