-- Rows of the collector within a call: whether its next step is one, and which block it is to reclaim next.
use Rattle.std.specs.Prelude.{◌≡◌, ℕ, Bool, true, false}
use Rattle.seize_words.specs.OneMemory.Word.{block_in}
use Rattle.seize.specs.declared.rows.settle.Settle.{Settle}
use Rattle.map_machines.specs.declared.copier.Copying.{Copying}
use Rattle.map_machines.specs.declared.copier.Copying.TheVariants as copies
use Rattle.map_machines.specs.declared.dispose.Disposing.{Disposing}
use Rattle.map_machines.specs.declared.dispose.Disposing.TheVariants as disposes
use Rattle.papaya_raw.specs.Given.ReservesDeclared.reserve.Reserving.{Reserving}
use Rattle.papaya_raw.specs.Given.ReservesDeclared.reserve.Reserving.TheVariants as reserving
use Rattle.papaya_raw.specs.Given.ReservesDeclared.sweep.Sweeping.{Sweeping}
use Rattle.papaya_raw.specs.Given.ReservesDeclared.sweep.Sweeping.TheVariants as sweeping
use Rattle.papaya_raw.specs.declared.machines.call.Calling.{Calling}
use Rattle.papaya_raw.specs.declared.machines.call.Calling.TheVariants as at
use Rattle.papaya_raw.specs.declared.machines.machine.Machine.{Machine}
use Rattle.papaya_raw.specs.declared.machines.machine.Machine.TheVariants as kinds
use Rattle.seize_views.specs.Views.Rows.{IsReclaiming}

-- a settling is to reclaim this block, once it is drained
abbrev pub IsToReclaim : Settle → ℕ → Type 0
IsToReclaim c b = IsReclaiming c.stands × (b ≡ block_in c.reclaiming)

abbrev pub DisposesNext : Disposing → ℕ → Type 0
DisposesNext (disposes.Settles settle) b = IsToReclaim settle b
DisposesNext _ b = ⊥

abbrev pub CopiesNext : Copying → ℕ → Type 0
CopiesNext (copies.Retires settle rest) b = IsToReclaim settle b
CopiesNext _ b = ⊥

abbrev pub CallsNext : Calling → ℕ → Type 0
CallsNext (at.Disposes dispose answer) b = DisposesNext dispose.stands b
CallsNext (at.Helps copier goal) b = CopiesNext copier.stands b
CallsNext (at.Copies copier) b = CopiesNext copier.stands b
CallsNext _ b = ⊥

abbrev pub ReservesNext : Reserving → ℕ → Type 0
ReservesNext (reserving.Copies copier) b = CopiesNext copier.stands b
ReservesNext _ b = ⊥

abbrev pub SweepsNext : Sweeping → ℕ → Type 0
SweepsNext (sweeping.Copies copier) b = CopiesNext copier.stands b
SweepsNext (sweeping.Disposes dispose) b = DisposesNext dispose.stands b
SweepsNext _ b = ⊥

-- the row within this call is
abbrev pub IsNextOf : {K V Q : Type 0} → Machine K V Q → ℕ → Type 0
IsNextOf (kinds.Key c) b = CallsNext c.stands b
IsNextOf (kinds.Reserve c) b = ReservesNext c.stands b
IsNextOf (kinds.Sweep c) b = SweepsNext c.stands b
IsNextOf (kinds.Count c) b = ⊥

-- its next step is one of a row of the collector
abbrev pub copies_at_row : Copying → Bool
copies_at_row (copies.Retires settle rest) = true
copies_at_row _ = false

abbrev pub disposes_at_row : Disposing → Bool
disposes_at_row (disposes.Settles settle) = true
disposes_at_row (disposes.Defers defer) = true
disposes_at_row _ = false

abbrev pub calls_at_row : Calling → Bool
calls_at_row (at.Disposes dispose answer) = disposes_at_row dispose.stands
calls_at_row (at.Helps copier goal) = copies_at_row copier.stands
calls_at_row (at.Copies copier) = copies_at_row copier.stands
calls_at_row _ = false

abbrev pub reserves_at_row : Reserving → Bool
reserves_at_row (reserving.Copies copier) = copies_at_row copier.stands
reserves_at_row _ = false

abbrev pub sweeps_at_row : Sweeping → Bool
sweeps_at_row (sweeping.Copies copier) = copies_at_row copier.stands
sweeps_at_row (sweeping.Disposes dispose) = disposes_at_row dispose.stands
sweeps_at_row _ = false

abbrev pub is_at_row : {K V : Type 0} → Machine K V K → Bool
is_at_row (kinds.Key c) = calls_at_row c.stands
is_at_row (kinds.Reserve c) = reserves_at_row c.stands
is_at_row (kinds.Sweep c) = sweeps_at_row c.stands
is_at_row (kinds.Count c) = false
