-- The rows of the collector within a call on one key: it retires or defers a pair that it has taken out, or retires a table.
use Rattle.map_facts_late.specs.Given.ResizeCopierPromotes.{table_retired}
use Rattle.map_facts_late.specs.Given.ResizeDeclared.copier.Copier.{Copier}
use Rattle.std.specs.Prelude.{◌≡◌, ℕ}
use Rattle.seize_model.specs.Given.SeizeWorld.{World, Row, Rests, Registers, Enters, Settles, Leaves, Defers, Frees, Use, Vacant, Outside, Inside, Changing}
use Rattle.map_facts_late.specs.Given.RawDeclared.machines.call.KeyCall.{KeyCall}
use Rattle.map_facts_late.specs.Given.RawDeclared.machines.call.Calling.{Calling}
use Rattle.map_facts_late.specs.Given.RawDeclared.machines.call.Calling.TheVariants as at
use Rattle.map_facts_late.specs.Given.ResizeDeclared.copier.Copying.{Copying}
use Rattle.map_facts_late.specs.Given.ResizeDeclared.copier.Copying.TheVariants as copies
use Rattle.map_facts_late.specs.Given.ResizeDeclared.dispose.Disposing.{Disposing}
use Rattle.map_facts_late.specs.Given.ResizeDeclared.dispose.Disposing.TheVariants as disposes

-- the row that a disposal stands at, within the section of this slot
abbrev pub row_of_disposal : ℕ → Disposing → Row
row_of_disposal slot (disposes.Settles settle) = Settles settle
row_of_disposal slot (disposes.Defers defer) = Defers slot defer
row_of_disposal slot _ = Rests

-- the row that a copier stands at
abbrev pub row_of_copier : Copying → Row
row_of_copier (copies.Retires settle rest) = Settles settle
row_of_copier _ = Rests

-- the row that a call stands at
abbrev pub row_of : ℕ → Calling → Row
row_of slot (at.Disposes dispose answer) = row_of_disposal slot dispose.stands
row_of slot (at.Helps copier goal) = row_of_copier copier.stands
row_of slot (at.Copies copier) = row_of_copier copier.stands
row_of slot _ = Rests

-- where a copier stands once a table is retired: it goes on with the next one, if there is one
abbrev pub past_copying : Copier → Copying → Copier
past_copying copier (copies.Retires settle rest) = table_retired copier rest
past_copying copier stands = copier

-- where the call stands once that row is over
abbrev pub past_row : Calling → Calling
past_row (at.Disposes dispose answer) = at.Disposes (record dispose { stands = disposes.Over }) answer
past_row (at.Helps copier goal) = at.Helps (past_copying copier copier.stands) goal
past_row (at.Copies copier) = at.Copies (past_copying copier copier.stands)
past_row stands = stands

abbrev pub once_over : {K V Q : Type 0} → KeyCall K V Q → KeyCall K V Q
once_over p = record p { stands = past_row p.stands }

-- the row works on this slot, or none is under way, or one that seeks a slot
abbrev pub IsRowOn : ℕ → Row → Type 0
IsRowOn s Rests = Unit {0}
IsRowOn s (Registers c) = Unit {0}
IsRowOn s (Enters c) = c.slot ≡ s
IsRowOn s (Settles c) = c.slot ≡ s
IsRowOn s (Leaves c) = c.slot ≡ s
IsRowOn s (Defers t c) = t ≡ s
IsRowOn s (Frees c) = c.slot ≡ s

-- a slot is used as it was, however many rows work on it
abbrev pub IsUsedAlike : Use → Use → Type 0
IsUsedAlike Vacant after = after ≡ Vacant
IsUsedAlike (Outside n) after = (k : ℕ) × (after ≡ Outside k)
IsUsedAlike (Inside n) after = (k : ℕ) × (after ≡ Inside k)
IsUsedAlike Changing after = after ≡ Changing

-- What a step of a call leaves of slots: each is used as it was, and a row of the caller's that works on this one does so on.
pub record LeavesSlots {T : Type 0} (s i : ℕ) (w w2 : World T) : Type 0 where
  pub uses : (t : ℕ) → IsUsedAlike (w.uses t) (w2.uses t)
  pub on_slot : IsRowOn s (w.row i) → IsRowOn s (w2.row i)
