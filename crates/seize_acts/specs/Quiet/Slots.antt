-- A caller reclaims all, after whatever others did before it, step by step: its work on slots is one row after another, which leaves nothing that waits.
use Rattle.std.specs.Prelude.{◌≡◌, ℕ, ◌+◌, ◌<◌, ◌≤◌, Bool, true, false, List, [], ◌∷◌, ◌++◌, Option, Some, None, IsSome}
use Rattle.std.specs.List.{AllByRecursion}
use Rattle.seize_words.specs.declared.at.At.TheVariants.{Slot}
use Rattle.seize_words.specs.OneMemory.Mem.{Mem, value_at, word_at}
use Rattle.seize.specs.declared.states.TheConstants.{HEAD, BATCH, FREE, LAST_SLOT}
use Rattle.seize.specs.declared.rows.settle.Settled.{Settled}
use Rattle.seize.specs.declared.rows.settle.Settled.TheVariants as settled
use Rattle.seize.specs.declared.rows.reclaim_all.ReclaimAll.{ReclaimAll}
use Rattle.seize.specs.declared.rows.reclaim_all.Reclaiming.{Reclaiming}
use Rattle.seize.specs.declared.rows.reclaim_all.Reclaiming.TheVariants as at
use Rattle.seize.specs.Law.{is_retired}
use Rattle.seize.specs.Sequence.{Calls, IsBetween, taken_in}
use Rattle.seize.specs.World.{World, Row, Rests, Settles, Leaves, Vacant, Outside, Request, Register', Leave', Flush, Unregister', Event, Begin, Step, Begins, Steps', Runs, at_start}
use Rattle.seize_model.specs.Alone.Alone.{TakesSteps}

-- a row that takes a slot again, leaves one, flushes it or gives it up
abbrev pub IsForSlots : Request → Type 0
IsForSlots (Register' enters) = enters ≡ false
IsForSlots (Leave' s) = Unit {0}
IsForSlots (Flush s) = Unit {0}
IsForSlots (Unregister' s) = Unit {0}
IsForSlots _ = ⊥

-- this caller begins such rows, and takes steps of them
abbrev pub AreItsRows : {T : Type 0} → ℕ → List (Event T) → Type 0
AreItsRows i [] = Unit {0}
AreItsRows i (Begin j request ∷ events) = (j ≡ i) × IsForSlots request × AreItsRows i events
AreItsRows i (Step j ∷ events) = (j ≡ i) × AreItsRows i events
AreItsRows i (_ ∷ events) = ⊥

module _ {T : Type 0} where
  -- no row is under way
  abbrev pub AllRest : World T → Type 0
  AllRest w = (j : ℕ) → w.row j ≡ Rests

  -- the slot has no batch
  abbrev pub HasNoBatch : World T → ℕ → Type 0
  HasNoBatch w s = (word : ℕ) → word_at w.memory (Slot s BATCH) ≡ Some word → word ≡ 0

  -- Nothing is left of what slots had: no row is under way, no slot is in use, and none has a batch.
  pub record IsQuiescent (w : World T) : Type 0 where
    pub rests : AllRest w
    pub vacant : (s : ℕ) → w.uses s ≡ Vacant
    pub none : (s : ℕ) → s ≤ LAST_SLOT → HasNoBatch w s

  -- The slots below this one were taken, and none of them is active.
  pub record Settling (s : ℕ) (w : World T) : Type 0 where
    pub rests : AllRest w
    pub idle : (t : ℕ) → t < s → w.uses t ≡ Outside 0

  -- No slot is active, and only the first ones, so many, were ever taken. If the round has found no batch yet, those below this one have none.
  pub record Flushing (slots s : ℕ) (again : Bool) (w : World T) : Type 0 where
    pub rests : AllRest w
    pub few : slots ≤ LAST_SLOT + 1
    pub idle : (t : ℕ) → t < slots → w.uses t ≡ Outside 0
    pub vacant : (t : ℕ) → slots ≤ t → w.uses t ≡ Vacant
    pub others : (t : ℕ) → slots ≤ t → t ≤ LAST_SLOT → HasNoBatch w t
    pub none : again ≡ false → (t : ℕ) → t < s → HasNoBatch w t

  -- No slot has a batch, and those below this one are given up.
  pub record Freeing (slots s : ℕ) (w : World T) : Type 0 where
    pub rests : AllRest w
    pub few : slots ≤ LAST_SLOT + 1
    pub idle : (t : ℕ) → s ≤ t → t < slots → w.uses t ≡ Outside 0
    pub freed : (t : ℕ) → t < s → w.uses t ≡ Vacant
    pub vacant : (t : ℕ) → slots ≤ t → w.uses t ≡ Vacant
    pub none : (t : ℕ) → t ≤ LAST_SLOT → HasNoBatch w t

  -- A step has taken no block away; or it has taken one that was retired, whose value it hands out. It never waits.
  abbrev pub SlotsOutcome : World T → World T → Settled T → Type 0
  SlotsOutcome w w2 settled.Goes = taken_in w2.log ≡ taken_in w.log
  SlotsOutcome w w2 settled.Waits = ⊥
  SlotsOutcome w w2 (settled.Gave value) =
      (b : ℕ) × (value_at w.memory b ≡ Some value) × (is_retired b w.log ≡ true) × (value_at w2.memory b ≡ None) × (taken_in w2.log ≡ taken_in w.log ++ b ∷ [])
  SlotsOutcome w w2 settled.Done = ⊥

module _ {T : Type 0} (defers : T → Option ℕ) (batch_size : ℕ) where
  -- the world came about from the start
  abbrev pub Came : World T → Type 0
  Came w = (roots : ℕ) × (events : List (Event T)) × Runs defers batch_size events (at_start defers roots) w

  module _ (i : ℕ) where
    -- Caller i has begun this row in a world in which so much was so, and has taken some steps of it.
    pub record Within (request : Request) (So : World T → Type 0) (row : Row) (w : World T) : Type 0 where
      pub before : World T
      pub so : So before
      pub came : Came before
      pub begun : World T
      pub begins : Begins defers batch_size i request before begun
      pub steps : ℕ
      pub takes : TakesSteps defers steps i begun w
      pub row_is : w.row i ≡ row

    -- what is so at each point of its work on slots
    abbrev pub OnSlotsAt : ReclaimAll → World T → Reclaiming → Type 0
    OnSlotsAt c w (at.Heads s) = (c.again ≡ false) × (s ≤ LAST_SLOT) × Settling s w × IsSome (word_at w.memory (Slot s HEAD))
    OnSlotsAt c w (at.Retakes s) = (c.again ≡ false) × (s ≤ LAST_SLOT) × Settling s w × (word_at w.memory (Slot s HEAD) ≡ Some FREE)
    OnSlotsAt c w (at.Leaves s leave) = (c.again ≡ false) × (s ≤ LAST_SLOT) × Within (Leave' s) (Settling s) (Leaves leave) w
    OnSlotsAt c w (at.Batches s) = (s < c.slots) × Flushing c.slots s c.again w
    OnSlotsAt c w (at.Flushes s settle) = (s < c.slots) × Within (Flush s) (Flushing c.slots s c.again) (Settles settle) w
    OnSlotsAt c w (at.Frees s) = (s < c.slots) × Freeing c.slots s w
    OnSlotsAt c w _ = ⊥

    -- it works on slots, or has come to the first root, if there is one, and nothing is left of what slots had
    abbrev pub StageAt : ReclaimAll → World T → Reclaiming → Type 0
    StageAt c w (at.Roots root) = (root ≡ 0) × (0 < c.roots) × IsQuiescent w
    StageAt c w at.Over = (c.roots ≡ 0) × IsQuiescent w
    StageAt c w p = OnSlotsAt c w p

    pub record Stage (roots : ℕ) (c : ReclaimAll) (w : World T) : Type 0 where
      pub size_is : c.batch_size ≡ batch_size
      pub roots_are : c.roots ≡ roots
      pub here : StageAt c w c.stands

    -- the row begins that is under way at this point, or nothing happens where none is
    abbrev pub BeginsAt : World T → World T → Reclaiming → Type 0
    BeginsAt w w2 (at.Leaves s leave) = Begins defers batch_size i (Leave' s) w w2
    BeginsAt w w2 (at.Flushes s settle) = Begins defers batch_size i (Flush s) w w2
    BeginsAt w w2 _ = w2 ≡ w

    -- What a step does, from this point to that one. Where it looks at a slot, the row begins that is under way there then; within a row it is a step of that; and a slot is taken again, or given up,
    -- by a whole row. Once it has done with slots, it is nothing of a row.
    abbrev pub DoesAt : List (Event T) → World T → World T → Reclaiming → Reclaiming → Type 0
    DoesAt events w w2 (at.Heads s) to = BeginsAt w w2 to
    DoesAt events w w2 (at.Retakes s) to = Calls defers batch_size i (Register' false) w w2
    DoesAt events w w2 (at.Leaves s leave) to = Steps' defers i (w.row i) w w2
    DoesAt events w w2 (at.Batches s) to = BeginsAt w w2 to
    DoesAt events w w2 (at.Flushes s settle) to = Steps' defers i (w.row i) w w2
    DoesAt events w w2 (at.Frees s) to = Calls defers batch_size i (Unregister' s) w w2
    DoesAt events w w2 _ to = AllByRecursion IsBetween events

    -- Where a step of the work on slots leads from a point: it is made up of beginnings and steps of the caller's rows on slots.
    pub record Led (roots : ℕ) (w : World T) (point : Reclaiming) (m2 : Mem T) (c2 : ReclaimAll) (progress : Settled T) : Type 0 where
      pub w2 : World T
      pub events : List (Event T)
      pub own : AreItsRows i events
      pub runs : Runs defers batch_size events w w2
      pub does : DoesAt events w w2 point c2.stands
      pub memory : w2.memory ≡ m2
      pub told : SlotsOutcome w w2 progress
      pub stage : Stage roots c2 w2
