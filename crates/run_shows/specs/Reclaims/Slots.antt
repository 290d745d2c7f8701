-- A caller reclaims all among maps: what is so of its work on slots, whatever values are, of pairs and tables.
use Rattle.std.specs.Prelude.{ℕ, List}
use Rattle.seize.specs.declared.rows.reclaim_all.ReclaimAll.{ReclaimAll}
use Rattle.seize.specs.declared.rows.reclaim_all.Reclaiming.{Reclaiming}
use Rattle.seize.specs.World.{World, Event}
use Rattle.run_effects.specs.Given.TablesNodes.{deferred_word}
use Rattle.run_effects.specs.Given.TablesDeclared.node.Node.{Node}
use Rattle.seize_acts.specs.Quiet.Slots as quiet
pub use Rattle.seize_acts.specs.Quiet.Slots.{IsForSlots, AreItsRows, AllRest, HasNoBatch, IsQuiescent}

module _ {K V : Type 0} (batch_size i : ℕ) where
  -- what is so at each point of it
  abbrev pub OnSlotsAt : ReclaimAll → World (Node K V) → Reclaiming → Type 0
  OnSlotsAt c w p = quiet.OnSlotsAt deferred_word batch_size i c w p

  -- what a step does, from this point to that one
  abbrev pub DoesAt : List (Event (Node K V)) → World (Node K V) → World (Node K V) → Reclaiming → Reclaiming → Type 0
  DoesAt events w w2 p to = quiet.DoesAt deferred_word batch_size i events w w2 p to
