-- What every step keeps, of whatever kind, beside what a moment of a run shows in one piece.
use Rattle.std.specs.Prelude.{ℕ, List}
use Rattle.run_schedules.specs.Schedules.Moment.{Moment}
use Rattle.run_executor.specs.Given.EffectsKnown.{Known}
use Rattle.run_blocks.specs.Owes.Grown.{RefinesGrown}
use Rattle.run_blocks.specs.Owes.Looking.{RefinesLooking}
use Rattle.run_blocks.specs.Owes.Made.{RefinesMade}
use Rattle.run_blocks.specs.Owes.Short.{RefinesShort}
use Rattle.run_blocks.specs.Owes.Tables.{RefinesOwnTables}
use Rattle.run_blocks.specs.Given.SettlesCounts.{RefinesCounts}
use Rattle.run_blocks.specs.Given.SettlesEntries.{EntriesAreBlank}
use Rattle.run_blocks.specs.Given.SettlesHand.{RefinesObligations}
use Rattle.run_blocks.specs.Given.SettlesHanding.{RowsAreHandingOver}
use Rattle.run_waiting.specs.Lives.Behind.{RefinesWaiting, WaitsOnce}
use Rattle.run_waiting.specs.Lives.Handed.{RefinesHanded}
use Rattle.run_waiting.specs.Lives.LeftTables.{RefinesLeft}
use Rattle.run_waiting.specs.Lives.Lying.{RefinesLying}
use Rattle.run_waiting.specs.Lives.Order.{RefinesOrder}
use Rattle.run_waiting.specs.Lives.Retired.{RefinesRetiredTables}
use Rattle.run_kept.specs.Kept.Ends.{MapsHaveEnds}
use Rattle.run_executor.specs.Given.ScenesScene.{Scene}

-- What somebody has is blank, and a row within a call retires one block. Each call has made just that block for a pair, and that table, which the moment says, and is short
-- of a growth just where it is to be refused for want of memory; one that only looks has a machine that looks. It has to count what the moment says, it owes what it has in hand, and one whose
-- row is under way hands something over. What waits behind a table does so in the memory, and behind no other table, and what can be reached through a table alone waits behind it, or is being put there; on the lists of tables in use pairs lie in the order in which they wait; each table that the collector
-- has is retired, or about to be; and
-- each that is left over is one of a map whose end is under way. Each pair that the collector has was handed over, or waits, or is in hand still. Each copying that is not over has a place that is not counted, or a call that is to
-- end it; in blocking mode also one that is to give it up, where a place of it was.
pub record RefinesKept {K V : Type 0} (name : ℕ → List ℕ) (m : Moment K V) (known : Known) (s : Scene K V) : Type 0 where
  pub entries : EntriesAreBlank s
  pub made : RefinesMade name m known s
  pub tables : RefinesOwnTables name m known s
  pub looking : RefinesLooking name m s
  pub short : RefinesShort name m s
  pub grown : RefinesGrown name m s
  pub counts : RefinesCounts name m s
  pub owed : RefinesObligations name m known s
  pub handing : RowsAreHandingOver name m s
  pub waiting : RefinesWaiting m known s.world
  pub once : WaitsOnce m.deferred
  pub lying : RefinesLying m known s.world
  pub order : RefinesOrder m known s.world
  pub retired : RefinesRetiredTables m known s
  pub left : RefinesLeft known s
  pub handed : RefinesHanded m known s
  pub ends : MapsHaveEnds s
