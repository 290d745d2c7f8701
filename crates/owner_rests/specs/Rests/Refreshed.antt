-- What a change of one owner's map does to its memory: first the owner's section is refreshed, and then the change's own machine is run.
use Rattle.std.specs.Prelude.{false, Result}
use Rattle.seize_words.specs.OneMemory.Mem.{Mem}
use Rattle.seize_words.specs.declared.fault.Fault.{Fault}
use Rattle.seize.specs.Leave.{leaving}
use Rattle.seize.specs.declared.states.TheConstants.{ACTIVE}
use Rattle.map_tables.specs.Nodes.{deferred_word}
use Rattle.map_tables.specs.declared.node.Node.{Node}
use Rattle.map_tables.specs.declared.setting.Setting.{Setting}
use Rattle.owner_calls.specs.Given.StridesEnding.{RunsTo}
use Rattle.owner_calls.specs.Owned.Machines.{refreshes_plan}
use Rattle.owner_calls.specs.declared.machines.OwnerRefresh.{OwnerRefresh}

module _ {K V : Type 0} (setting : Setting) where
  -- the section was refreshed: the row that does so was run to its end
  abbrev pub HasRefreshed : Mem (Node K V) → Mem (Node K V) → Type 0
  HasRefreshed m n = (y : OwnerRefresh) × (result : Result Unit Fault) × RunsTo (refreshes_plan deferred_word) (record { leave = leaving setting.slot setting.batch_size ACTIVE false }) m y n result

  -- this is so of the memory once it was
  abbrev pub OnceRefreshed : Mem (Node K V) → (Mem (Node K V) → Type 0) → Type 0
  OnceRefreshed m IsSo = (n : Mem (Node K V)) × HasRefreshed m n × IsSo n
