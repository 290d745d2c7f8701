-- What is promised of a caller that reclaims all that waits: that it may begin, and take each step of its work on slots, what these come to, and that they end.
use Rattle.std.specs.Prelude.{◌≡◌, ℕ, zero, suc, ◌<◌, ◌^◌, Bool, Option, None, IsSome}
use Rattle.seize_words.specs.declared.at.At.TheVariants.{Slot}
use Rattle.seize_words.specs.OneMemory.Mem.{Mem, Can, Took, value_at, word_at}
use Rattle.seize_words.specs.OneMemory.Plan.{May, Steps}
use Rattle.seize.specs.declared.states.TheConstants.{HEAD}
use Rattle.seize.specs.declared.rows.settle.Settled.{Settled}
use Rattle.seize.specs.declared.rows.reclaim_all.ReclaimAll.{ReclaimAll}
use Rattle.seize.specs.declared.rows.reclaim_all.Reclaiming.{Reclaiming}
use Rattle.seize.specs.declared.rows.reclaim_all.Reclaiming.TheVariants as at
use Rattle.seize.specs.ReclaimAll.{reclaiming_all, reclaim_all_plan}
use Rattle.seize.specs.World.{World}
use Rattle.seize_acts.specs.Acts.Reclaimed.{HasNothingLeft}
use Rattle.seize_acts.specs.Quiet.Slots.{AllRest, IsQuiescent, Came, Stage, Led}

-- it works on slots
abbrev pub IsOnSlots : Reclaiming → Type 0
IsOnSlots (at.Heads s) = Unit {0}
IsOnSlots (at.Retakes s) = Unit {0}
IsOnSlots (at.Leaves s leave) = Unit {0}
IsOnSlots (at.Batches s) = Unit {0}
IsOnSlots (at.Flushes s settle) = Unit {0}
IsOnSlots (at.Frees s) = Unit {0}
IsOnSlots _ = ⊥

module _ {T : Type 0} (defers : T → Option ℕ) where
  -- Where no row is under way, a caller begins to reclaim all: with the slots, if one was ever taken; or with the roots, if no slot is in use and none has a
  -- batch, as where none was ever taken.
  abbrev pub SlotsBegin : Type 0
  SlotsBegin =
      (batch_size roots i : ℕ) (w : World T) → batch_size < 2 ^ 64 → Came defers batch_size w → AllRest w
      → (IsSome (word_at w.memory (Slot 0 HEAD)) → Stage defers batch_size i roots (reclaiming_all batch_size roots) w)
      × (word_at w.memory (Slot 0 HEAD) ≡ None → IsQuiescent w)

  -- where no slot is in use, and none has a batch, nothing is left that waits, but what is put behind blocks that the collector does not have
  abbrev pub NothingWaits : Type 0
  NothingWaits = (batch_size : ℕ) (w : World T) → batch_size < 2 ^ 64 → Came defers batch_size w → IsQuiescent w → HasNothingLeft defers w

  module _ (left_over : T → Bool) where
    -- whichever step of its work on slots the caller takes, it may take it
    abbrev pub SlotsLead : Type 0
    SlotsLead =
        (batch_size roots i : ℕ) (c : ReclaimAll) (w : World T) → batch_size < 2 ^ 64 → Came defers batch_size w → Stage defers batch_size i roots c w → IsOnSlots c.stands
        → May Can Took value_at w.memory (reclaim_all_plan defers left_over c)
        × ((m2 : Mem T) (c2 : ReclaimAll) (progress : Settled T) → Steps Took value_at w.memory (reclaim_all_plan defers left_over c) m2 (c2, progress)
        → Led defers batch_size i roots w c.stands m2 c2 progress)

    -- it has done with slots after so many steps at most, whichever they are
    abbrev pub DoneWithin : ℕ → Mem T → ReclaimAll → Type 0
    DoneWithin zero m c = IsOnSlots c.stands → ⊥
    DoneWithin (suc k) m c =
        IsOnSlots c.stands
        → (m2 : Mem T) (c2 : ReclaimAll) (progress : Settled T) → Steps Took value_at m (reclaim_all_plan defers left_over c) m2 (c2, progress) → DoneWithin k m2 c2

    abbrev pub SlotsEnd : Type 0
    SlotsEnd =
        (batch_size roots i : ℕ) (c : ReclaimAll) (w : World T) → batch_size < 2 ^ 64 → Came defers batch_size w → Stage defers batch_size i roots c w
        → (steps : ℕ) × DoneWithin steps w.memory c
