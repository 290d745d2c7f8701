-- The words of the crates below, given on to the crates above: these list this crate in place of those.
pub use Rattle.map_rule.specs.Beside as RuleBeside
pub use Rattle.map_rule.specs.Chart as RuleChart
pub use Rattle.map_rule.specs.Counters as RuleCounters
pub use Rattle.map_rule.specs.Given.ResizeCopier
pub use Rattle.map_rule.specs.Given.ResizeCopierClaims
pub use Rattle.map_rule.specs.Given.ResizeCopierCounts
pub use Rattle.map_rule.specs.Given.ResizeCopierFurther
pub use Rattle.map_rule.specs.Given.ResizeCopierMarks
pub use Rattle.map_rule.specs.Given.ResizeCopierPlaces
pub use Rattle.map_rule.specs.Given.ResizeCopierPromotes
pub use Rattle.map_rule.specs.Given.ResizeCopierStates
pub use Rattle.map_rule.specs.Given.ResizeDeclared
pub use Rattle.map_rule.specs.Given.ResizeDispose
pub use Rattle.map_rule.specs.Given.ResizeLookup
pub use Rattle.map_rule.specs.Given.ResizeNewMap
pub use Rattle.map_rule.specs.Given.ResizeNewTable
pub use Rattle.map_rule.specs.Given.ResizeSum
pub use Rattle.map_rule.specs.Given.SeizeWordsDeclared
pub use Rattle.map_rule.specs.Given.SeizeWordsMem
pub use Rattle.map_rule.specs.Given.SeizeWordsOp
pub use Rattle.map_rule.specs.Given.SeizeWordsPlan
pub use Rattle.map_rule.specs.Given.SeizeWordsWord
pub use Rattle.map_rule.specs.InWorld as RuleInWorld
pub use Rattle.map_rule.specs.Lasts as RuleLasts
pub use Rattle.map_rule.specs.Leaves as RuleLeaves
pub use Rattle.map_rule.specs.Links as RuleLinks
pub use Rattle.map_rule.specs.Maps as RuleMaps
pub use Rattle.map_rule.specs.Moments as RuleMoments
pub use Rattle.map_rule.specs.Moves as RuleMoves
pub use Rattle.map_rule.specs.Rule as RuleRule
pub use Rattle.map_rule.specs.Words as RuleWords
pub use Rattle.papaya_raw.specs.Answers as RawAnswers
pub use Rattle.papaya_raw.specs.Call as RawCall
pub use Rattle.papaya_raw.specs.CallAsks as RawCallAsks
pub use Rattle.papaya_raw.specs.CallFills as RawCallFills
pub use Rattle.papaya_raw.specs.CallPoints as RawCallPoints
pub use Rattle.papaya_raw.specs.EndMap as RawEndMap
pub use Rattle.papaya_raw.specs.Given.ReservesDeclared
pub use Rattle.papaya_raw.specs.Given.ReservesReserve
pub use Rattle.papaya_raw.specs.Given.SeizeDeclared
pub use Rattle.papaya_raw.specs.Given.SeizeDefer
pub use Rattle.papaya_raw.specs.Given.SeizeSettle
pub use Rattle.papaya_raw.specs.Given.SeizeWorld
pub use Rattle.papaya_raw.specs.Given.SweepsSweep
pub use Rattle.papaya_raw.specs.Given.SweepsSweepPoints
pub use Rattle.papaya_raw.specs.Given.TablesChunks
pub use Rattle.papaya_raw.specs.Given.TablesCounts
pub use Rattle.papaya_raw.specs.Given.TablesDeclared
pub use Rattle.papaya_raw.specs.Given.TablesFinding
pub use Rattle.papaya_raw.specs.Given.TablesLengths
pub use Rattle.papaya_raw.specs.Given.TablesMarks
pub use Rattle.papaya_raw.specs.Given.TablesNodes
pub use Rattle.papaya_raw.specs.Given.TablesProbes
pub use Rattle.papaya_raw.specs.Given.TablesTablePlaces
pub use Rattle.papaya_raw.specs.Given.TablesTrials
pub use Rattle.papaya_raw.specs.Machine as RawMachine
pub use Rattle.papaya_raw.specs.Progress as RawProgress
pub use Rattle.papaya_raw.specs.Replies as RawReplies
pub use Rattle.papaya_raw.specs.declared as RawDeclared
