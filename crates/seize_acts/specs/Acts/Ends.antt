-- When a row terminates.
use Rattle.std.specs.Prelude.{◌≡◌, ℕ, zero, suc, ◌<◌, List, Option, Some, ◌⊎◌}
use Rattle.seize_words.specs.OneMemory.Mem.{Mem}
use Rattle.seize.specs.World.{World, Row, Rests, Event, Runs, Steps', at_start}
use Rattle.seize_acts.specs.Acts.Answers.{Grant}
use Rattle.seize_acts.specs.Acts.Acts.{Act, Step, AllDid, became}

module _ {T : Type 0} (defers : T → Option ℕ) where
  -- Where nothing else happens, the row of this caller rests after so many steps at most: until then there is a next step, and it is so after
  -- each one that there can be, whatever the memory chooses.
  abbrev pub IdleWithin : ℕ → ℕ → ℕ → World T → Type 0
  IdleWithin batch_size zero i w = w.row i ≡ Rests
  IdleWithin batch_size (suc steps) i w =
      (w.row i ≡ Rests)
      ⊎ (((g : Grant) × (n : World T) × (became defers batch_size (Step i g) w ≡ Some n))
      × ((g : Grant) (n : World T) → became defers batch_size (Step i g) w ≡ Some n → IdleWithin batch_size steps i n))

  -- a row that is alone under way terminates
  abbrev pub LoneRowsEnd : Type 0
  LoneRowsEnd =
      (batch_size roots i : ℕ) (acts : List (Act T)) (w : World T) → AllDid defers batch_size acts (at_start defers roots) w
      → ((j : ℕ) → (j ≡ i → ⊥) → w.row j ≡ Rests) → (steps : ℕ) × IdleWithin batch_size steps i w

  -- While nobody else steps, the row of this caller rests after so many steps, unless one of them waits: it leaves the row and the memory as they were.
  abbrev pub IdleOrWaitsWithin : ℕ → ℕ → World T → Type 0
  IdleOrWaitsWithin zero i w = w.row i ≡ Rests
  IdleOrWaitsWithin (suc steps) i w =
      (n : World T) → Steps' defers i (w.row i) w n → ((n.row i ≡ w.row i) × (n.memory ≡ w.memory)) ⊎ IdleOrWaitsWithin steps i n

  -- so does each row that is under way, whatever rows others have stopped in the midst of
  abbrev pub RowsRestOrWait : Type 0
  RowsRestOrWait =
      (batch_size roots i : ℕ) (events : List (Event T)) (w : World T) → Runs defers batch_size events (at_start defers roots) w → (steps : ℕ) × IdleOrWaitsWithin steps i w

  -- There is a number of each row and the memory that each step of the row lowers, unless it waits, whatever others have done before it. A step of another
  -- may raise it, by what it leaves in the memory.
  abbrev pub RowsFall : Type 0
  RowsFall =
      (number : Mem T → Row → ℕ)
      × ((batch_size roots i : ℕ) (events : List (Event T)) (w n : World T) → Runs defers batch_size events (at_start defers roots) w → Steps' defers i (w.row i) w n
      → ((n.row i ≡ w.row i) × (n.memory ≡ w.memory)) ⊎ (number n.memory (n.row i) < number w.memory (w.row i)))
