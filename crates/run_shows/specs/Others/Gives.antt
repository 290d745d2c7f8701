-- What a row on a slot hands out: the value of the block that it has taken away.
use Rattle.std.specs.Prelude.{◌≡◌, ℕ, Bool, Some}
use Rattle.seize_words.specs.OneMemory.Mem.{Mem, value_at}
use Rattle.run_effects.specs.Given.TablesDeclared.node.Node.{Node}
use Rattle.run_effects.specs.declared.changed.Changed.{Changed}
use Rattle.run_effects.specs.declared.changed.Changed.TheVariants.{Took}
use Rattle.run_shows.specs.declared.row.RowTold.{RowTold}
use Rattle.run_shows.specs.declared.row.RowTold.TheVariants as rows
use Rattle.run_shows.specs.declared.row.SlotRow.{SlotRow}
use Rattle.run_shows.specs.Follows.Steps.{TakesNone}
use Rattle.run_shows.specs.Scenes.Held.{Held}
use Rattle.run_shows.specs.Scenes.OnSlots.{RowLeads}
use Rattle.run_shows.specs.Scenes.Scene.{IsOnSlot, Scene}

-- a step that hands a value out has taken its block away, and no other step takes one
abbrev pub GivesWhatItTook : {K V : Type 0} → Mem (Node K V) → Changed → RowTold (Node K V) → Type 0
GivesWhatItTook memory changed (rows.Gave value) = (b : ℕ) × (changed ≡ Took b) × (value_at memory b ≡ Some value)
GivesWhatItTook memory changed _ = TakesNone changed

-- The promise of the steps of rows on slots.
abbrev pub RowsGiveWhatTheyTook : (K V : Type 0) → (K → K → Bool) → (ℕ → K → ℕ) → Type 0
RowsGiveWhatTheyTook K V same hash =
    (s : Scene K V) (old new : Held K V) (i : ℕ) (told : RowTold (Node K V)) → RowLeads same hash i told s old new → (row : SlotRow) → IsOnSlot s i row
    → GivesWhatItTook old.memory new.changed told
