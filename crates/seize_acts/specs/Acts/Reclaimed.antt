-- Everything can be reclaimed.
use Rattle.std.specs.Prelude.{◌≡◌, ℕ, ◌<◌, ◌≤◌, ◌^◌, ◌==◌, Bool, true, false, List, [], ◌∷◌, Option, Some}
use Rattle.seize_words.specs.declared.at.At.TheVariants.{Slot}
use Rattle.seize_words.specs.OneMemory.Mem.{word_at}
use Rattle.seize.specs.declared.states.TheConstants.{BATCH, LAST_SLOT}
use Rattle.seize.specs.Law.{is_retired}
use Rattle.seize.specs.WaitingSets.{is_one_of}
use Rattle.seize.specs.Further.{FurtherAre}
use Rattle.seize.specs.World.{World, Rests, Vacant, Hand, InUse, Parting, Cutting, Handed, Register', Leave', Flush, Unregister', at_start}
use Rattle.seize_acts.specs.Acts.Acts.{Act, Begin, Step, AllDid}

-- This caller registers without entering, leaves a slot, flushes it or gives it up, or goes on with such a row.
abbrev pub is_reclaiming : {T : Type 0} → ℕ → Act T → Bool
is_reclaiming i (Begin j (Register' false) g) = j == i
is_reclaiming i (Begin j (Leave' s) g) = j == i
is_reclaiming i (Begin j (Flush s) g) = j == i
is_reclaiming i (Begin j (Unregister' s) g) = j == i
is_reclaiming i (Step j g) = j == i
is_reclaiming i _ = false

-- all of these acts are such
abbrev pub AllReclaim : {T : Type 0} → ℕ → List (Act T) → Type 0
AllReclaim i [] = Unit {0}
AllReclaim i (act ∷ acts) = (is_reclaiming i act ≡ true) × AllReclaim i acts

-- the block is linked, or it was unlinked and is its holder's still
abbrev pub IsStillHad : Hand → Type 0
IsStillHad (InUse o) = Unit {0}
IsStillHad (Parting i) = Unit {0}
IsStillHad (Cutting i) = Unit {0}
IsStillHad _ = ⊥

module _ {T : Type 0} (defers : T → Option ℕ) where
  -- the block stands on the list of a block that the collector does not have
  abbrev pub IsDeferredOnOthers : World T → ℕ → Type 0
  IsDeferredOnOthers w b = (t : ℕ) × (further : List ℕ) × IsStillHad (w.hand t) × FurtherAre defers w.memory t further × (is_one_of b further ≡ true)

  -- No row is under way, no block is retired still, no slot is in use, and none has a batch. What the collector has is put behind a block that
  -- it does not have.
  abbrev pub HasNothingLeft : World T → Type 0
  HasNothingLeft w =
      ((i : ℕ) → w.row i ≡ Rests) × ((b : ℕ) → is_retired b w.log ≡ false) × ((s : ℕ) → w.uses s ≡ Vacant)
      × ((s word : ℕ) → s ≤ LAST_SLOT → word_at w.memory (Slot s BATCH) ≡ Some word → word ≡ 0) × ((b : ℕ) → w.hand b ≡ Handed → IsDeferredOnOthers w b)

  -- After any acts at whose end no row is under way, any caller can reclaim everything, by acts of its own: by whole rows, one after another.
  abbrev pub EverythingCanBeReclaimed : Type 0
  EverythingCanBeReclaimed =
      (batch_size roots i : ℕ) (acts : List (Act T)) (w : World T) → batch_size < 2 ^ 64 → AllDid defers batch_size acts (at_start defers roots) w
      → ((j : ℕ) → w.row j ≡ Rests) → (more : List (Act T)) × (n : World T) × AllReclaim i more × AllDid defers batch_size more w n × HasNothingLeft n
