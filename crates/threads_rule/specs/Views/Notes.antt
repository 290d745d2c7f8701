-- What a seat knows of its slot and of its row, as it is noted for whoever has rows run.
use Rattle.std.specs.Prelude.{ℕ, List, Option, Some, None}
use Rattle.map_tables.specs.declared.node.Node.{Node}
use Rattle.seize_views.specs.Views.Notes.{noted}
use Rattle.seize_views.specs.Views.Rows.{IsQuiescent}
use Rattle.seize_views.specs.declared.view.Deed.TheVariants.{NoneYet}
use Rattle.seize_views.specs.declared.view.Noted.{Noted}
use Rattle.seize_views.specs.declared.view.SlotView.{SlotView}
use Rattle.seize_views.specs.declared.view.SlotView.TheVariants.{Inside, Busy}
use Rattle.threads_rule.specs.declared.view.Map.{Map}
use Rattle.threads_rule.specs.declared.view.BegunCall.{BegunCall}
use Rattle.threads_rule.specs.declared.view.View.{View}
use Rattle.threads_rule.specs.declared.view.SeatWork.{SeatWork}
use Rattle.threads_rule.specs.declared.view.SeatWork.TheVariants.{Nothing, Calls, Makes, Ends}

-- a seat that has something else under way, within the section of its slot or without one, is busy, and so is one that leans on another
abbrev pub busy : {T : Type 0} → SlotView T → SlotView T
busy (Inside t has) = Busy (Some t)
busy slot = Busy None

-- nor does one rest that leans on the owner of a map
abbrev pub knows_by : {T : Type 0} → Option ℕ → SlotView T → SlotView T
knows_by None slot = slot
knows_by (Some owner) slot = busy slot

module _ {K V S : Type 0} where
  abbrev pub row_known : Option (ℕ × ℕ) → SlotView (Node K V) → SeatWork K V S → SlotView (Node K V)
  row_known (Some leant) slot work = Busy None
  row_known None slot Nothing = slot
  row_known None slot (Calls machine) = busy slot
  row_known None slot (Makes own m hasher opening) = Busy None
  row_known None slot (Ends machine) = Busy None

  -- nothing is done at a root, and nobody watches a section
  abbrev pub notes_of : View K V S → Noted (Node K V)
  notes_of v = noted (knows_by v.by (row_known v.under v.slot v.work)) NoneYet v.began 0

  -- and beside that: the map that it knows, and the calls that it has begun
  abbrev pub beside_of : View K V S → Option (Map S) × List (BegunCall K V)
  beside_of v = (v.map, v.calls)

  -- it has nothing under way
  abbrev pub SeatIsQuiescent : View K V S → Type 0
  SeatIsQuiescent v = IsQuiescent (notes_of v).knows
