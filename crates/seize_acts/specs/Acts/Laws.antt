-- What is promised over every list of acts.
use Rattle.std.specs.Prelude.{◌≡◌, ℕ, ◌+◌, ◌<◌, ◌≤◌, ◌*◌, ◌-◌, ◌^◌, true, List, Option, Some, ◌⊎◌, length, max}
use Rattle.seize.specs.declared.states.TheConstants.{LAST_SLOT}
use Rattle.seize.specs.Law.{IsSound, is_retired}
use Rattle.seize.specs.Further.{FurtherAre}
use Rattle.seize.specs.WaitingSets.{is_one_of}
use Rattle.seize.specs.World.{World, Rests, Handed, MayStep, IsOutside, SlotsTaken, Steps', times, at_start}
use Rattle.seize_acts.specs.Acts.Answers.{Grant}
use Rattle.seize_acts.specs.Acts.Acts.{Act, Step, AllDid, became, row_steps, turned}

module _ {T : Type 0} (defers : T → Option ℕ) where
  -- the log of effects is sound
  abbrev pub ActsAreSound : Type 0
  ActsAreSound = (batch_size roots : ℕ) (acts : List (Act T)) (w : World T) → AllDid defers batch_size acts (at_start defers roots) w → IsSound w.log

  -- each row under way may take its next step
  abbrev pub ActsMayStep : Type 0
  ActsMayStep =
      (batch_size roots : ℕ) (acts : List (Act T)) (w : World T) → AllDid defers batch_size acts (at_start defers roots) w
      → (i : ℕ) → MayStep defers (w.row i) w.memory

  -- Each step that a memory took of a row is that of an act, with a choice of the memory and with the steps behind it that make no operation: so
  -- acts leave no step out.
  abbrev pub StepsAreActs : Type 0
  StepsAreActs =
      (batch_size roots : ℕ) (acts : List (Act T)) (w n : World T) (i : ℕ) → AllDid defers batch_size acts (at_start defers roots) w
      → Steps' defers i (w.row i) w n
      → (g : Grant) × (v : World T) × (row_steps defers i (w.row i) g w ≡ Some n) × (turned defers 2 i n ≡ Some v) × (became defers batch_size (Step i g) w ≡ Some v)

  -- the block stands on the list of a block that is there
  abbrev pub IsDeferredOn : World T → ℕ → Type 0
  IsDeferredOn w b = (t : ℕ) × (further : List ℕ) × FurtherAre defers w.memory t further × (is_one_of b further ≡ true)

  -- the block is retired and not reclaimed since, or it is deferred until another one is, which is there
  abbrev pub IsNotLost : World T → ℕ → Type 0
  IsNotLost w b = (is_retired b w.log ≡ true) ⊎ IsDeferredOn w b

  -- Nothing that was handed over is lost: where no row is under way, this is so of each block that the collector has.
  abbrev pub NothingIsLost : Type 0
  NothingIsLost =
      (batch_size roots : ℕ) (acts : List (Act T)) (w : World T) → AllDid defers batch_size acts (at_start defers roots) w → ((i : ℕ) → w.row i ≡ Rests)
      → (b : ℕ) → w.hand b ≡ Handed → IsNotLost w b

  -- The slots taken at some time are the first ones: no slot is taken while a lower one never was. There are 65,536 slots.
  abbrev pub SlotsAreFirst : Type 0
  SlotsAreFirst =
      (batch_size roots : ℕ) (acts : List (Act T)) (w : World T) → AllDid defers batch_size acts (at_start defers roots) w
      → (slots : ℕ) × (slots ≤ LAST_SLOT + 1) × SlotsTaken w.memory slots

  -- where no row is under way and no slot is active, what is retired and not yet reclaimed is bounded by the numbers of slots and of blocks in a batch
  abbrev pub ActsAreBounded : Type 0
  ActsAreBounded =
      (batch_size roots : ℕ) (acts : List (Act T)) (w : World T) → batch_size < 2 ^ 64 → AllDid defers batch_size acts (at_start defers roots) w
      → ((i : ℕ) → w.row i ≡ Rests) → ((s : ℕ) → IsOutside (w.uses s)) → (slots : ℕ) → SlotsTaken w.memory slots
      → (blocks : List ℕ) → ((b : ℕ) → times b blocks ≤ 1) → ((b : ℕ) → 0 < times b blocks → is_retired b w.log ≡ true)
      → length blocks ≤ slots * (max (max batch_size slots) 1 - 1)
