-- The promises of the work on slots but that it ends.
use Rattle.std.specs.Prelude.{Option}
use Rattle.std.proofs.Common.{◌≡◌, ℕ, ◌<◌, ◌^◌, Bool, refl, arith}
use Rattle.seize_words.specs.OneMemory.Mem.{Mem, Can, Took, value_at}
use Rattle.seize_words.specs.OneMemory.Plan.{May, Steps}
use Rattle.seize.specs.declared.rows.settle.Settled.{Settled}
use Rattle.seize.specs.declared.rows.reclaim_all.ReclaimAll.{ReclaimAll}
use Rattle.seize.specs.declared.rows.reclaim_all.Reclaiming.{Reclaiming}
use Rattle.seize.specs.declared.rows.reclaim_all.Reclaiming.TheVariants as at
use Rattle.seize.specs.ReclaimAll.{plan_at}
use Rattle.seize.specs.World.{World}
use Rattle.seize_acts.specs.Quiet.Slots.{Came, StageAt, Led}
use Rattle.seize_acts.specs.Quiet.Promises.{IsOnSlots, SlotsBegin, SlotsLead, NothingWaits}
use Rattle.seize_acts.proofs.Quiet.Slots.Facts.{nothing_left as none_left}
use Rattle.seize_acts.proofs.Quiet.Slots.Flushes.{batch_may, batch_led, flush_may, flush_led, free_may, free_led}
use Rattle.seize_acts.proofs.Quiet.Slots.Stages.{never_taken}
use Rattle.seize_acts.proofs.Quiet.Slots.Steps.{head_may, head_led, retake_may, retake_led, leave_may, leave_led}

module _ {T : Type 0} (defers : T → Option ℕ) where
  pub slots_begin : SlotsBegin defers
  slots_begin size roots i w word came rests = (
    λ there. record {
      size_is = refl;
      roots_are = refl;
      here = (refl, omega arith, record { rests = rests; idle = λ t l. absurd (omega (arith, l)) }, there);
    },
    never_taken defers size roots i w came rests,
  )

  pub nothing_waits : NothingWaits defers
  nothing_waits size w word came quiet = none_left defers size word w came quiet

  module _ (left_over : T → Bool) (size roots i : ℕ) (word : size < 2 ^ 64) (w : World T) (came : Came defers size w) (batch slots all : ℕ) (again : Bool) (ss : batch ≡ size) (rs : all ≡ roots) where
    abbrev machine : Reclaiming → ReclaimAll
    machine p = record { batch_size = batch; roots = all; slots = slots; again = again; stands = p }

    abbrev Goes : Reclaiming → Type 0
    Goes p = May Can Took value_at w.memory (plan_at defers left_over (machine p) p)
        × ((m2 : Mem T) (end : ReclaimAll × Settled T) → Steps Took value_at w.memory (plan_at defers left_over (machine p) p) m2 end → Led defers size i roots w p m2 end.0 end.1)

    step_at : (p : Reclaiming) → IsOnSlots p → StageAt defers size i (machine p) w p → Goes p
    step_at (at.Heads s) on (none, lt, st, there) = (
      head_may defers left_over size roots i word w came batch slots all again ss rs s none lt st there,
      head_led defers left_over size roots i word w came batch slots all again ss rs s none lt st,
    )
    step_at (at.Retakes s) on (none, lt, st, free) = (
      retake_may defers left_over size roots i word w came batch slots all again ss rs s none lt st free,
      retake_led defers left_over size roots i word w came batch slots all again ss rs s none lt st free,
    )
    step_at (at.Leaves s l) on (none, lt, h) = (
      leave_may defers left_over size roots i word w came batch slots all again ss rs s l none lt h,
      leave_led defers left_over size roots i word w came batch slots all again ss rs s l none lt h,
    )
    step_at (at.Batches s) on (lt, f) = (
      batch_may defers left_over size roots i word w came batch slots all again ss rs s lt f,
      batch_led defers left_over size roots i word w came batch slots all again ss rs s lt f,
    )
    step_at (at.Flushes s l) on (lt, h) = (
      flush_may defers left_over size roots i word w came batch slots all again ss rs s l lt h,
      flush_led defers left_over size roots i word w came batch slots all again ss rs s l lt h,
    )
    step_at (at.Frees s) on (lt, f) = (
      free_may defers left_over size roots i word w came batch slots all again ss rs s lt f,
      free_led defers left_over size roots i word w came batch slots all again ss rs s lt f,
    )
    step_at (at.Roots root) on h = absurd on
    step_at (at.Nexts root block) on h = absurd on
    step_at (at.Takes root block next) on h = absurd on
    step_at (at.Empties root) on h = absurd on
    step_at (at.Unuses root) on h = absurd on
    step_at at.Over on h = absurd on

  pub slots_lead : (left_over : T → Bool) → SlotsLead defers left_over
  slots_lead left_over size roots i c w word came st on =
      let k = step_at left_over size roots i word w came c.batch_size c.slots c.roots c.again st.size_is st.roots_are c.stands on st.here in
      (k.0, λ m2 c2 progress steps. k.1 m2 (c2, progress) steps)
