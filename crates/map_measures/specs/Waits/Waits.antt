-- What is so of a map while a call waits, at each point at which one may.
use Rattle.std.specs.Prelude.{◌≡◌, ◌≢◌, ℕ, Bool, true, false}
use Rattle.map_tables.specs.declared.status.TheConstants.Status.{PROMOTED, ABORTED}
use Rattle.map_machines.specs.declared.copier.Copier.{Copier}
use Rattle.map_machines.specs.declared.copier.Copying.{Copying as Point}
use Rattle.map_machines.specs.declared.copier.Copying.TheVariants as copies
use Rattle.many_calls.specs.Given.RawDeclared.machines.call.KeyCall.{KeyCall}
use Rattle.many_calls.specs.Given.RawDeclared.machines.call.Calling.{Calling}
use Rattle.many_calls.specs.Given.RawDeclared.machines.call.Calling.TheVariants as at
use Rattle.map_sweeps.specs.declared.reserve.Reserving.{Reserving}
use Rattle.map_sweeps.specs.declared.reserve.Reserving.TheVariants as reserves
use Rattle.map_sweeps.specs.declared.sweep.Sweeping.{Sweeping}
use Rattle.map_sweeps.specs.declared.sweep.Sweeping.TheVariants as sweeps
use Rattle.many_calls.specs.Given.RuleChart.{Copying, Holds, Chart}
use Rattle.seize.specs.World.{World, Row, Rests}
use Rattle.seize_acts.specs.Acts.Waits.{SettlesOn, AnotherHas}
use Rattle.many_calls.specs.Rows.{row_of_disposal, row_of_copier}

module _ {K : Type 0} (c : Chart K) where
  -- the copying into the table with this turn is under way: that table is neither promoted nor given up
  abbrev pub IsUnfinished : ℕ → Type 0
  IsUnfinished t = (c.status t ≢ PROMOTED) × (c.status t ≢ ABORTED)

  -- the pair at this place of this table is being copied, and is not yet copied
  abbrev pub IsBeingCopied : ℕ → ℕ → Type 0
  IsBeingCopied t place = (n : ℕ) × (borrowed : Bool) × (c.place t place ≡ Holds n Copying borrowed)

module _ {K : Type 0} (c : Chart K) (incremental : Bool) where
  -- A copier of a whole table waits: at a place whose pair is being copied, in incremental mode, or for the status, with each place claimed.
  abbrev pub CopierAwaits : Copier → Point → Type 0
  CopierAwaits p copies.Marks = (incremental ≡ true) × IsBeingCopied c p.source.turn p.place × IsUnfinished c p.target.turn
  CopierAwaits p copies.Asks = (p.spent ≡ true) × IsUnfinished c p.target.turn
  CopierAwaits p _ = ⊥

  -- A call on one key waits: at a try, in incremental mode, or within its copying of a whole table, in blocking mode.
  abbrev pub CallAwaits : {V Q : Type 0} → KeyCall K V Q → Calling → Type 0
  CallAwaits p at.Probes = (incremental ≡ true) × IsBeingCopied c p.trial.table.turn p.trial.probe.i
  CallAwaits p (at.Copies copier) = (incremental ≡ false) × CopierAwaits copier copier.stands
  CallAwaits p _ = ⊥

  -- a reservation, and a sweep, wait within such a copying
  abbrev pub RoomAwaits : Reserving → Type 0
  RoomAwaits (reserves.Copies copier) = CopierAwaits copier copier.stands
  RoomAwaits _ = ⊥

  abbrev pub SweepAwaits : Sweeping → Type 0
  SweepAwaits (sweeps.Copies copier) = CopierAwaits copier copier.stands
  SweepAwaits _ = ⊥

-- the row that a sweep stands at, within the section of this slot
abbrev pub row_of_sweep : ℕ → Sweeping → Row
row_of_sweep slot (sweeps.Copies copier) = row_of_copier copier.stands
row_of_sweep slot (sweeps.Disposes dispose) = row_of_disposal slot dispose.stands
row_of_sweep slot _ = Rests

-- Just one row has in hand the batch of the slot that this row of a caller settles on, and that is another caller's.
abbrev pub AnotherHolds : {T : Type 0} → World T → ℕ → Row → Type 0
AnotherHolds w i row = (s : ℕ) × SettlesOn s row × AnotherHas w i s
