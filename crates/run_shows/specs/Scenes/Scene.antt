-- How callers, maps and a memory stand at a moment.
use Rattle.std.specs.Prelude.{◌≡◌, ℕ, ◌%◌, true, Option, Some, None}
use Rattle.std.specs.Option.{is_none}
use Rattle.seize.specs.World.{World, Row, Registers, Enters, Settles, Leaves, Frees, at_start}
use Rattle.run_effects.specs.Given.TablesNodes.{deferred_word}
use Rattle.run_effects.specs.Given.TablesDeclared.node.Node.{Node}
use Rattle.many_maps.specs.Given.CallersTogether.{UnderWay}
use Rattle.many_maps.specs.Endings.{Finishing}
use Rattle.many_maps.specs.Makings.{Beginning}
use Rattle.many_maps.specs.Maps.{Standing}
use Rattle.run_shows.specs.declared.callers.TheConstants.{SLOTS}
use Rattle.run_shows.specs.declared.row.SlotRow.{SlotRow}
use Rattle.run_shows.specs.declared.row.SlotRow.TheVariants as rows

-- the world, the maps by number, the calls by map and by caller, and the makings and ends of maps by caller
pub record Scene (K V : Type 0) : Type 0 where
  pub world : World (Node K V)
  pub maps : ℕ → Option (Standing K)
  pub calls : ℕ → ℕ → Option (UnderWay K V K)
  pub makers : ℕ → Option (Beginning K)
  pub enders : ℕ → Option (Finishing K V)

-- no map and no caller, in a memory with as many roots
abbrev pub at_first : {K V : Type 0} → ℕ → Scene K V
at_first roots = record { world = at_start deferred_word roots; maps = λ m. None; calls = λ m i. None; makers = λ i. None; enders = λ i. None }

-- the number of a caller tells its slot
abbrev pub slot_of : ℕ → ℕ
slot_of caller = caller % SLOTS

-- A row between calls is this one.
abbrev pub row_of : SlotRow → Row
row_of (rows.Registers register) = Registers register
row_of (rows.Enters enter) = Enters enter
row_of (rows.Leaves leave) = Leaves leave
row_of (rows.Flushes settle) = Settles settle
row_of (rows.Frees unregister) = Frees unregister

module _ {K V : Type 0} where
  -- a caller has a call under way, on some map
  abbrev pub HasCall : Scene K V → ℕ → Type 0
  HasCall s i = (m : ℕ) × (u : UnderWay K V K) × (s.calls m i ≡ Some u)

  -- or makes a map
  abbrev pub IsMaking : Scene K V → ℕ → Type 0
  IsMaking s i = (b : Beginning K) × (s.makers i ≡ Some b)

  -- or ends one
  abbrev pub IsEnding : Scene K V → ℕ → Type 0
  IsEnding s i = (f : Finishing K V) × (s.enders i ≡ Some f)

  -- or has no call
  abbrev pub HasNoCall : Scene K V → ℕ → Type 0
  HasNoCall s i = (m : ℕ) → is_none (s.calls m i) ≡ true

  -- or has this row under way, and no call
  abbrev pub IsOnSlot : Scene K V → ℕ → SlotRow → Type 0
  IsOnSlot s i row = HasNoCall s i × (s.world.row i ≡ row_of row)
