-- The words of the crates below, given on to the crates above: these list this crate in place of those.
pub use Rattle.many_calls.specs.Asked as CallersAsked
pub use Rattle.many_calls.specs.Claims as CallersClaims
pub use Rattle.many_calls.specs.Given.LateCovers
pub use Rattle.many_calls.specs.Given.LateCoversSweeps
pub use Rattle.many_calls.specs.Given.LateEnds
pub use Rattle.many_calls.specs.Given.LateFaults
pub use Rattle.many_calls.specs.Given.LateKinds
pub use Rattle.many_calls.specs.Given.LateLateCopies
pub use Rattle.many_calls.specs.Given.LateLateLooks
pub use Rattle.many_calls.specs.Given.LateRowsSweeps
pub use Rattle.many_calls.specs.Given.PointsFactsIdle
pub use Rattle.many_calls.specs.Given.PointsFactsLooks
pub use Rattle.many_calls.specs.Given.PointsMeasures
pub use Rattle.many_calls.specs.Given.PointsMeasuresDisposes
pub use Rattle.many_calls.specs.Given.PointsMeasuresLooks
pub use Rattle.many_calls.specs.Given.PointsMeasuresTables
pub use Rattle.many_calls.specs.Given.RuleChart
pub use Rattle.many_calls.specs.Given.RuleInWorld
pub use Rattle.many_calls.specs.Given.RuleLasts
pub use Rattle.many_calls.specs.Given.RuleLinks
pub use Rattle.many_calls.specs.Given.RuleMaps
pub use Rattle.many_calls.specs.Given.RuleMoments
pub use Rattle.many_calls.specs.Given.RuleMoves
pub use Rattle.many_calls.specs.Given.RuleRule
pub use Rattle.many_calls.specs.Given.RuleWords
pub use Rattle.many_calls.specs.Given.SeizeAloneAlone
pub use Rattle.many_calls.specs.Kind as CallersKind
pub use Rattle.many_calls.specs.Pairs as CallersPairs
pub use Rattle.many_calls.specs.Rows as CallersRows
pub use Rattle.many_calls.specs.Since as CallersSince
pub use Rattle.many_calls.specs.Sweeps as CallersSweeps
pub use Rattle.map_machines.specs.Copier as ResizeCopier
pub use Rattle.map_machines.specs.CopierClaims as ResizeCopierClaims
pub use Rattle.map_machines.specs.CopierFurther as ResizeCopierFurther
pub use Rattle.map_machines.specs.CopierMarks as ResizeCopierMarks
pub use Rattle.map_machines.specs.CopierPromotes as ResizeCopierPromotes
pub use Rattle.map_machines.specs.CopierStates as ResizeCopierStates
pub use Rattle.map_machines.specs.Dispose as ResizeDispose
pub use Rattle.map_machines.specs.Lookup as ResizeLookup
pub use Rattle.map_machines.specs.NewMap as ResizeNewMap
pub use Rattle.map_machines.specs.NewTable as ResizeNewTable
pub use Rattle.map_machines.specs.Sum as ResizeSum
pub use Rattle.map_machines.specs.declared as ResizeDeclared
pub use Rattle.seize_acts.specs.Acts.Waits as SeizeActsWaits
pub use Rattle.seize_acts.specs.Given.SeizeEndsHolders
