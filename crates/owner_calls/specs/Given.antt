-- The words of the crates below, given on to the crates above: these list this crate in place of those.
pub use Rattle.map_straight.specs.Given.ResizeCopier
pub use Rattle.map_straight.specs.Given.ResizeCopierClaims
pub use Rattle.map_straight.specs.Given.ResizeCopierCounts
pub use Rattle.map_straight.specs.Given.ResizeCopierFurther
pub use Rattle.map_straight.specs.Given.ResizeCopierMarks
pub use Rattle.map_straight.specs.Given.ResizeCopierPlaces
pub use Rattle.map_straight.specs.Given.ResizeCopierPromotes
pub use Rattle.map_straight.specs.Given.ResizeCopierStates
pub use Rattle.map_straight.specs.Given.ResizeDeclared
pub use Rattle.map_straight.specs.Given.ResizeDispose
pub use Rattle.map_straight.specs.Given.ResizeLookup
pub use Rattle.map_straight.specs.Given.ResizeNewTable
pub use Rattle.map_straight.specs.Given.ResizeSum
pub use Rattle.map_straight.specs.Given.RuleChart
pub use Rattle.map_straight.specs.Given.RuleInWorld
pub use Rattle.map_straight.specs.Given.RuleLinks
pub use Rattle.map_straight.specs.Given.RuleMaps
pub use Rattle.map_straight.specs.Given.RuleRule
pub use Rattle.map_straight.specs.Given.RuleWords
pub use Rattle.map_straight.specs.Shown.Chain as ShownChain
pub use Rattle.map_tables.specs.Counts as TablesCounts
pub use Rattle.map_tables.specs.Finding as TablesFinding
pub use Rattle.map_tables.specs.Lengths as TablesLengths
pub use Rattle.map_tables.specs.Marks as TablesMarks
pub use Rattle.map_tables.specs.Powers as TablesPowers
pub use Rattle.map_tables.specs.Probes as TablesProbes
pub use Rattle.map_tables.specs.TablePlaces as TablesTablePlaces
pub use Rattle.map_tables.specs.Trials as TablesTrials
pub use Rattle.owner_whole.specs.Given.AloneCounted
pub use Rattle.owner_whole.specs.Given.AloneCounting
pub use Rattle.owner_whole.specs.Given.CallersAsked
pub use Rattle.owner_whole.specs.Given.CallersKind
pub use Rattle.owner_whole.specs.Given.CallersOverAll
pub use Rattle.owner_whole.specs.Given.CallersPairs
pub use Rattle.owner_whole.specs.Given.CallersSights
pub use Rattle.owner_whole.specs.Given.CallersSince
pub use Rattle.owner_whole.specs.Given.CallersTogether
pub use Rattle.owner_whole.specs.Given.LateFactsReserves
pub use Rattle.owner_whole.specs.Given.LateFactsSweeps
pub use Rattle.owner_whole.specs.Given.LateFaults
pub use Rattle.owner_whole.specs.Given.LateKinds
pub use Rattle.owner_whole.specs.Given.LateLateCalls
pub use Rattle.owner_whole.specs.Given.LateLateCopies
pub use Rattle.owner_whole.specs.Given.LateLateReserves
pub use Rattle.owner_whole.specs.Given.LateToldReserves
pub use Rattle.owner_whole.specs.Given.LateToldSweeps
pub use Rattle.owner_whole.specs.Given.PointsFactsCalls
pub use Rattle.owner_whole.specs.Given.PointsFactsCopies
pub use Rattle.owner_whole.specs.Given.PointsFactsCopiesBlocking
pub use Rattle.owner_whole.specs.Given.PointsFactsDisposes
pub use Rattle.owner_whole.specs.Given.PointsFactsTables
pub use Rattle.owner_whole.specs.Given.PointsSteps
pub use Rattle.owner_whole.specs.Given.PointsTold
pub use Rattle.owner_whole.specs.Given.SeizeAloneAlone
pub use Rattle.owner_whole.specs.Given.WaitersBlocking
pub use Rattle.owner_whole.specs.Given.WaitsOthers
pub use Rattle.owner_whole.specs.Given.WaitsWaits
pub use Rattle.owner_whole.specs.Strides.Ending as StridesEnding
pub use Rattle.owner_whole.specs.Strides.Looking as StridesLooking
pub use Rattle.owner_whole.specs.Strides.Standing as StridesStanding
pub use Rattle.owner_whole.specs.Whole.Contents as WholeContents
pub use Rattle.owner_whole.specs.Whole.Limits as WholeLimits
pub use Rattle.owner_whole.specs.Whole.Owner as WholeOwner
pub use Rattle.papaya_raw.specs.Call as RawCall
pub use Rattle.papaya_raw.specs.CallAsks as RawCallAsks
pub use Rattle.papaya_raw.specs.CallFills as RawCallFills
pub use Rattle.papaya_raw.specs.CallPoints as RawCallPoints
pub use Rattle.papaya_raw.specs.Given.ReservesReserve
pub use Rattle.papaya_raw.specs.Given.SweepsSweep
pub use Rattle.papaya_raw.specs.Given.SweepsSweepPoints
pub use Rattle.papaya_raw.specs.Progress as RawProgress
pub use Rattle.papaya_raw.specs.Replies as RawReplies
