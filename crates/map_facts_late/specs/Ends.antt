-- Where a machine may find that no table can be made: what is to be so there, for what it finds in its memory.
use Rattle.std.specs.Prelude.{◌≡◌, ℕ, ◌^◌, ◌<◌, ◌≤◌, Some}
use Rattle.map_facts.specs.Given.SeizeWordsDeclared.at.At.TheVariants.{Root}
use Rattle.map_facts.specs.Given.SeizeWordsDeclared.fault.Fault.{Fault}
use Rattle.map_facts.specs.Given.SeizeWordsDeclared.fault.Fault.TheVariants.{Capacity}
use Rattle.map_facts.specs.Given.SeizeWordsMem.{Mem, value_at, word_at, Took}
use Rattle.map_facts.specs.Given.SeizeWordsPlan.{Steps}
use Rattle.map_facts.specs.Given.SeizeDeclared.advance.Advance.TheVariants as progress
use Rattle.map_facts.specs.Given.TablesLengths.{GoesByTable, NoneFollows}
use Rattle.map_facts.specs.Given.TablesTablePlaces.{at_word}
use Rattle.map_facts.specs.Given.TablesDeclared.lengths.Reason.{Reason}
use Rattle.map_facts.specs.Given.TablesDeclared.setting.Setting.{Setting}
use Rattle.map_facts.specs.Given.TablesDeclared.table.Table.{Table}
use Rattle.map_facts.specs.Given.TablesDeclared.table_words.TheConstants.{NEXT}
use Rattle.map_facts.specs.Given.ResizeSum.{sum_plan}
use Rattle.map_facts.specs.Given.ResizeDeclared.copier.Copier.{Copier}
use Rattle.map_facts.specs.Given.ResizeDeclared.copier.Copying.{Copying}
use Rattle.map_facts.specs.Given.ResizeDeclared.copier.Copying.TheVariants as copies
use Rattle.map_facts.specs.Given.ResizeDeclared.sum.Sum.{Sum}
use Rattle.map_facts.specs.Given.ReservesReserve.{needed}
use Rattle.map_facts.specs.Given.ReservesDeclared.reserve.Reserve.{Reserve}
use Rattle.map_facts.specs.Given.ReservesDeclared.reserve.Reserving.{Reserving}
use Rattle.map_facts.specs.Given.ReservesDeclared.reserve.Reserving.TheVariants as reserves
use Rattle.map_facts.specs.Given.RawDeclared.machines.call.Calling.{Calling}
use Rattle.map_facts.specs.Given.RawDeclared.machines.call.Calling.TheVariants as calls
use Rattle.map_facts.specs.Given.ReservesDeclared.sweep.Sweeping.{Sweeping}
use Rattle.map_facts.specs.Given.ReservesDeclared.sweep.Sweeping.TheVariants as sweeps

module _ (Is : Fault → Type 0) (Last : Table → Reason → Type 0) where
  -- where none can be made after one of these tables, the fault is such a one
  abbrev pub EndsSo : Setting → Type 0
  EndsSo setting = (before : Table) (reason : Reason) (count : ℕ) → Last before reason → NoneFollows reason before.len before.turn count setting.initial → Is Capacity

  -- for this reason or that, a table is of these
  abbrev pub IsLastFor : Table → Type 0
  IsLastFor table = (reason : Reason) → GoesByTable reason → Last table reason

  module _ {T : Type 0} (m : Mem T) where
    -- and so it is where no table is linked behind it
    abbrev pub IsLastWhereNone : Table → Type 0
    IsLastWhereNone table = word_at m (at_word table NEXT) ≡ Some 0 → IsLastFor table

    abbrev pub EndsInCopying : Copier → Copying → Type 0
    EndsInCopying p (copies.Passes word code table) = EndsSo p.setting × IsLastWhereNone table
    EndsInCopying p (copies.Grows word code making) = EndsSo making.setting
    EndsInCopying p copies.Replaces = EndsSo p.setting × IsLastWhereNone p.target
    EndsInCopying p (copies.Remakes making) = EndsSo making.setting
    EndsInCopying p _ = Unit {0}

    -- A reservation: where the places that it needs are more than a table can have, by the count that its step has come to; where the map has no table,
    -- none are counted. Or where no table is linked behind one with the last turn.
    abbrev pub EndsInReserving : Mem T → Reserve → Reserving → Type 0
    EndsInReserving m2 p reserves.Reads = word_at m (Root p.setting.root) ≡ Some 0 → 2 ^ 48 < needed p.additional 0 → Is Capacity
    EndsInReserving m2 p (reserves.Makes making) = EndsSo making.setting
    EndsInReserving m2 p (reserves.Sums table sum) =
        (after : Sum) (count : ℕ) → Steps Took value_at m (sum_plan {T = T} sum) m2 (after, progress.Done count) → 2 ^ 48 < needed p.additional count → Is Capacity
    EndsInReserving m2 p (reserves.Follows table need) = word_at m (at_word table NEXT) ≡ Some 0 → 2 ^ 63 ≤ table.turn → Is Capacity
    EndsInReserving m2 p (reserves.Grows table making) = EndsSo making.setting
    EndsInReserving m2 p (reserves.Copies copier) = EndsInCopying copier copier.stands
    EndsInReserving m2 p _ = Unit {0}

    abbrev pub EndsInSweeping : Sweeping → Type 0
    EndsInSweeping (sweeps.Copies copier) = EndsInCopying copier copier.stands
    EndsInSweeping _ = Unit {0}

    -- a call in this table
    abbrev pub EndsInCalling : Table → Calling → Type 0
    EndsInCalling table calls.Nexts = IsLastWhereNone table
    EndsInCalling table (calls.Firsts making) = EndsSo making.setting
    EndsInCalling table (calls.Allocs making) = EndsSo making.setting
    EndsInCalling table (calls.Helps copier goal) = EndsInCopying copier copier.stands
    EndsInCalling table (calls.Copies copier) = EndsInCopying copier copier.stands
    EndsInCalling table _ = Unit {0}
