-- What the one knows who has the memory to himself: how far he has come, and which steps of his machine make no operation.
use Rattle.std.specs.Prelude.{◌≡◌, ℕ, ◌+◌, Bool, true, false, Option, Some, nat_lt}
use Rattle.seize.specs.declared.states.TheConstants.{LAST_SLOT}
use Rattle.seize.specs.declared.rows.leave.Leave.{Leave}
use Rattle.seize.specs.declared.rows.leave.Leaving.{Leaving}
use Rattle.seize.specs.declared.rows.leave.Leaving.TheVariants as leaving_at
use Rattle.seize.specs.declared.rows.settle.Settle.{Settle}
use Rattle.seize.specs.declared.rows.settle.Settling.{Settling}
use Rattle.seize.specs.declared.rows.settle.Settling.TheVariants as settling_at
use Rattle.seize.specs.declared.rows.reclaim_all.ReclaimAll.{ReclaimAll}
use Rattle.seize.specs.declared.rows.reclaim_all.Reclaiming.{Reclaiming}
use Rattle.seize.specs.declared.rows.reclaim_all.Reclaiming.TheVariants as at
use Rattle.seize.specs.declared.rows.register.Registering.{Registering}
use Rattle.seize.specs.declared.rows.register.Registering.TheVariants as register_at
use Rattle.seize_views.specs.Views.Begun.{seeker_at}
use Rattle.seize_reclaims.specs.declared.alone.Alone.{Alone}
use Rattle.seize_reclaims.specs.declared.alone.Alone.TheVariants.{Registers, Reclaims}

-- it reclaims all, and stands so
abbrev pub IsUnderWay : {T : Type 0} → ReclaimAll → Option (Alone T) → Type 0
IsUnderWay {T} c v = (seen : Option (ℕ × T)) × (left : ℕ) × (v ≡ Some (Reclaims c seen left))

-- within so many further steps
abbrev pub left_of : {T : Type 0} → Option (Alone T) → ℕ
left_of (Some (Reclaims c seen left)) = left
left_of _ = 0

-- it seeks a slot, stands so with this one, and is to reclaim all by this then
abbrev pub IsSeeking : {T : Type 0} → ReclaimAll → ℕ → Registering → Option (Alone T) → ReclaimAll → Type 0
IsSeeking all slot stands v then_all = (v ≡ Some (Registers (seeker_at slot stands) all.batch_size)) × (then_all ≡ all)

-- this slot is the next one to be looked at, if there is such a slot; else it reclaims all
abbrev pub SeeksBy : {T : Type 0} → Bool → ReclaimAll → ℕ → Option (Alone T) → ReclaimAll → Type 0
SeeksBy true all slot v then_all = IsSeeking all slot register_at.Look v then_all
SeeksBy false all slot v then_all = IsUnderWay all v

abbrev pub Seeks : {T : Type 0} → ReclaimAll → ℕ → Option (Alone T) → ReclaimAll → Type 0
Seeks all slot v then_all = SeeksBy (nat_lt slot (LAST_SLOT + 1)) all slot v then_all

-- whether the next step makes no operation
abbrev pub settling_over : Settling → Bool
settling_over settling_at.Over = true
settling_over _ = false

abbrev pub settle_passes : Settle → Bool
settle_passes c = settling_over c.stands

abbrev pub leaving_over : Leaving → Bool
leaving_over leaving_at.Over = true
leaving_over (leaving_at.Settles settle) = settle_passes settle
leaving_over _ = false

abbrev pub leave_passes : Leave → Bool
leave_passes c = leaving_over c.stands

abbrev pub passes_at : Reclaiming → Bool
passes_at (at.Leaves slot leave) = leave_passes leave
passes_at (at.Flushes slot settle) = settle_passes settle
passes_at _ = false

abbrev pub passes : ReclaimAll → Bool
passes c = passes_at c.stands
