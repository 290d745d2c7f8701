-- Reclaiming all, in the world. Its work on slots is a list of whole calls, one after another: all slots that were given up are taken again, all
-- that are active leave, then all flush, in rounds, and then all are given up.
use Rattle.std.specs.Prelude.{◌≡◌, ℕ, zero, suc, ◌<◌, ◌^◌, Bool, true, false, List, [], ◌++◌, Option, Some}
use Rattle.seize.specs.Given.SeizeWordsDeclared.at.At.TheVariants.{Slot}
use Rattle.seize.specs.Given.SeizeWordsMem.{Mem, Took, value_at, word_at}
use Rattle.seize.specs.Given.SeizeWordsPlan.{Steps}
use Rattle.seize.specs.declared.states.TheConstants.{BATCH}
use Rattle.seize.specs.declared.rows.settle.Settled.{Settled}
use Rattle.seize.specs.declared.rows.reclaim_all.ReclaimAll.{ReclaimAll}
use Rattle.seize.specs.declared.rows.reclaim_all.Reclaiming.{Reclaiming}
use Rattle.seize.specs.declared.rows.reclaim_all.Reclaiming.TheVariants as at
use Rattle.seize.specs.ReclaimAll.{reclaiming_all, reclaim_all_plan}
use Rattle.seize.specs.Law.{is_retired}
use Rattle.seize.specs.WaitingSets.{Change, Sets, all_changed, all_reclaimed, at_start as sets_at_start}
use Rattle.seize.specs.World.{World, Use, Vacant, Inside, Register', Leave', Flush, Unregister', SlotsTaken, at_start}
use Rattle.seize.specs.Sequence.{Turn, Calls, TakesTurns, taken_in}

-- it has to do with slots still, and not with roots
abbrev pub is_on_slots : Reclaiming → Bool
is_on_slots (at.Heads slot) = true
is_on_slots (at.Retakes slot) = true
is_on_slots (at.Leaves slot leave) = true
is_on_slots (at.Batches slot) = true
is_on_slots (at.Flushes slot settle) = true
is_on_slots (at.Frees slot) = true
is_on_slots _ = false

module _ {T : Type 0} (defers : T → Option ℕ) (left_over : T → Bool) where
  -- it takes so many steps in this memory, alone, and has done with slots then
  abbrev pub RunsOnSlots : ℕ → ReclaimAll → Mem T → Mem T → Type 0
  RunsOnSlots zero c m n = (is_on_slots c.stands ≡ false) × (n ≡ m)
  RunsOnSlots (suc steps) c m n =
      (is_on_slots c.stands ≡ true) × (v : Mem T) × (end : ReclaimAll × Settled T) × Steps Took value_at m (reclaim_all_plan defers left_over c) v end
      × RunsOnSlots steps end.0 v n

module _ {T : Type 0} (defers : T → Option ℕ) (batch_size i : ℕ) where
  -- a slot that was given up is taken again, and one that is active leaves
  abbrev pub Settles : ℕ → Use → World T → World T → Type 0
  Settles s Vacant w n = Calls defers batch_size i (Register' false) w n
  Settles s (Inside rows) w n = Calls defers batch_size i (Leave' s) w n
  Settles s _ w n = n ≡ w

  -- the slots below this number do, ascending
  abbrev pub AllSettle : ℕ → World T → World T → Type 0
  AllSettle zero w n = n ≡ w
  AllSettle (suc s) w n = (v : World T) × AllSettle s w v × Settles s (v.uses s) v n

  -- a slot flushes its batch, if it has one
  abbrev pub FlushesAny : ℕ → Option ℕ → World T → World T → Type 0
  FlushesAny s (Some (suc last)) w n = Calls defers batch_size i (Flush s) w n
  FlushesAny s _ w n = n ≡ w

  -- the slots below this number do, ascending
  abbrev pub AllFlush : ℕ → World T → World T → Type 0
  AllFlush zero w n = n ≡ w
  AllFlush (suc s) w n = (v : World T) × AllFlush s w v × FlushesAny s (word_at v.memory (Slot s BATCH)) v n

  -- so many times
  abbrev pub Rounds : ℕ → ℕ → World T → World T → Type 0
  Rounds slots zero w n = n ≡ w
  Rounds slots (suc rounds) w n = (v : World T) × Rounds slots rounds w v × AllFlush slots v n

  -- the slots below this number are given up, ascending
  abbrev pub AllGiveUp : ℕ → World T → World T → Type 0
  AllGiveUp zero w n = n ≡ w
  AllGiveUp (suc s) w n = (v : World T) × AllGiveUp s w v × Calls defers batch_size i (Unregister' s) v n

  -- everything that slots have is reclaimed, by caller i
  pub record Reclaims (w n : World T) : Type 0 where
    pub slots : ℕ
    pub rounds : ℕ
    pub settled : World T
    pub flushed : World T
    pub all_settle : AllSettle slots w settled
    pub taken : SlotsTaken settled.memory slots
    pub all_flush : Rounds slots rounds settled flushed
    pub none_open : (s : ℕ) → s < slots → word_at flushed.memory (Slot s BATCH) ≡ Some 0
    pub all_give_up : AllGiveUp slots flushed n

-- The promise: after any turns from the start, the machine's work on slots, taken alone, is such a list of calls.
abbrev pub ReclaimsByCalls : {T : Type 0} → (T → Option ℕ) → (T → Bool) → Type 0
ReclaimsByCalls {T} defers left_over =
    (batch_size roots : ℕ) (turns : List (Turn T)) (w : World T) (before : List Change) (i steps : ℕ) (m : Mem T)
    → TakesTurns defers batch_size turns (at_start defers roots) w before
    → RunsOnSlots defers left_over steps (reclaiming_all batch_size roots) w.memory m
    → (n : World T) × Reclaims defers batch_size i w n × (n.memory ≡ m)

-- nothing waits in them: no batch is open, and none is closed
abbrev pub NothingWaits : Sets → Type 0
NothingWaits sets = ((s : ℕ) → sets.open_batch s ≡ []) × (sets.closed ≡ [])

-- The promise: after any turns from the start, its work on slots reclaims just what the waiting sets say, in that order. Then nothing waits, each
-- block that was retired is reclaimed, and every slot is vacant. A batch size is a word.
abbrev pub ReclaimsAsTheSetsSay : {T : Type 0} → (T → Option ℕ) → (T → Bool) → Type 0
ReclaimsAsTheSetsSay {T} defers left_over =
    (batch_size roots : ℕ) (turns : List (Turn T)) (w : World T) (before : List Change) (i steps : ℕ) (m : Mem T)
    → batch_size < 2 ^ 64 → TakesTurns defers batch_size turns (at_start defers roots) w before
    → RunsOnSlots defers left_over steps (reclaiming_all batch_size roots) w.memory m
    → let all = all_reclaimed batch_size (all_changed batch_size before sets_at_start).sets in
    (n : World T) × Reclaims defers batch_size i w n × (n.memory ≡ m) × (taken_in n.log ≡ taken_in w.log ++ all.reclaimed)
    × NothingWaits all.sets × ((b : ℕ) → is_retired b n.log ≡ false) × ((s : ℕ) → n.uses s ≡ Vacant)
