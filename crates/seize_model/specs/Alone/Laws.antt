-- What is promised of histories: which slots are active, what waits, and what is known of blocks and slots by what has happened; and of a call midway.
use Rattle.std.specs.Prelude.{◌≡◌, ◌≤◌, ◌<◌, ◌^◌, ◌+◌, ℕ, IsSome, List, [], ◌∷◌, ◌++◌, Option, Some, None, replicate}
use Rattle.seize.specs.Given.SeizeWordsDeclared.at.At.TheVariants.{Slot}
use Rattle.seize.specs.Given.SeizeWordsMem.{Mem, value_at, word_at}
use Rattle.seize.specs.Law.{Effect}
use Rattle.seize.specs.Sequence.{new_slot, taken_in}
use Rattle.seize.specs.WaitingSets.{Sets, further_of, all_changed, at_start as sets_at_start}
use Rattle.seize.specs.World.{Use, Vacant, Outside, IsInside, Hand, NoBlock, Handed, Request, handed_by, times}
use Rattle.seize.specs.declared.states.TheConstants.{HEAD, IDLE, LAST_SLOT}
use Rattle.seize_model.specs.Alone.Alone.{History, IsHistory, IsMidway, AreValues, given_back, nothing_yet, row_of}
use Rattle.seize_model.specs.declared.calls.WholeCall.{WholeCall}
use Rattle.seize_rule.specs.Given.SeizeWaitingHeld.{count, Every, all_held}

-- the waiting sets after what has happened
abbrev pub sets_after : ℕ → History → Sets
sets_after batch_size h = (all_changed batch_size h.before sets_at_start).sets

module _ (T : Type 0) (defers : T → Option ℕ) (batch_size : ℕ) where
  -- in a memory with so many roots, and nothing else, nothing has happened yet
  abbrev pub HistoriesBegin : Type 0
  HistoriesBegin =
      (roots : ℕ)
      → IsHistory defers batch_size roots (record { roots = replicate roots 0; used = replicate roots 0; slots = []; blocks = []; choices = [] }) nothing_yet

  -- nothing happens where a block's number is chosen for the next time
  abbrev pub ChoicesAreQuiet : Type 0
  ChoicesAreQuiet =
      (roots : ℕ) (m : Mem T) (h : History) → IsHistory defers batch_size roots m h → (choice : ℕ)
      → IsHistory defers batch_size roots (record m { choices = m.choices ++ choice ∷ [] }) h

  -- a slot that somebody is inside is active, and one that nobody is inside isn't
  abbrev pub InsidesAreActive : Type 0
  InsidesAreActive =
      (roots : ℕ) (m : Mem T) (h : History) → IsHistory defers batch_size roots m h → batch_size < 2 ^ 64 → (s : ℕ) → IsInside (h.uses s)
      → 1 ≤ count s (sets_after batch_size h).active

  abbrev pub OutsidesAreNot : Type 0
  OutsidesAreNot =
      (roots : ℕ) (m : Mem T) (h : History) → IsHistory defers batch_size roots m h → batch_size < 2 ^ 64 → (s : ℕ) → h.uses s ≡ Outside 0
      → count s (sets_after batch_size h).active ≡ 0

  -- what waits was handed over
  abbrev pub WaitingWasHanded : Type 0
  WaitingWasHanded =
      (roots : ℕ) (m : Mem T) (h : History) → IsHistory defers batch_size roots m h → batch_size < 2 ^ 64 → (b : ℕ)
      → (all_held b (sets_after batch_size h) ≡ 0 → ⊥) → h.hand b ≡ Handed

  -- the blocks that others wait behind are there, and their values have lists
  abbrev pub CarriersAreThere : Type 0
  CarriersAreThere =
      (roots : ℕ) (m : Mem T) (h : History) → IsHistory defers batch_size roots m h → batch_size < 2 ^ 64
      → Every (λ f. IsSome (value_at m f.behind)) (sets_after batch_size h).further

  abbrev pub CarriersHaveLists : Type 0
  CarriersHaveLists =
      (roots : ℕ) (m : Mem T) (h : History) → IsHistory defers batch_size roots m h → batch_size < 2 ^ 64
      → Every (λ f. (value : T) → value_at m f.behind ≡ Some value → defers value ≡ None → ⊥) (sets_after batch_size h).further

  -- nothing waits behind a block whose value has no list
  abbrev pub NoListNoWaiting : Type 0
  NoListNoWaiting =
      (roots : ℕ) (m : Mem T) (h : History) → IsHistory defers batch_size roots m h → batch_size < 2 ^ 64 → (b : ℕ) (value : T)
      → value_at m b ≡ Some value → defers value ≡ None → further_of b (sets_after batch_size h).further ≡ []

  -- a number that is nobody's names no block
  abbrev pub NobodysIsNone : Type 0
  NobodysIsNone = (roots : ℕ) (m : Mem T) (h : History) → IsHistory defers batch_size roots m h → (b : ℕ) → h.hand b ≡ NoBlock → value_at m b ≡ None

  -- the head of a slot that is registered, with no section, says so
  abbrev pub RegisteredSlotsSay : Type 0
  RegisteredSlotsSay =
      (roots : ℕ) (m : Mem T) (h : History) → IsHistory defers batch_size roots m h → (s : ℕ) → h.uses s ≡ Outside 0 → s < LAST_SLOT + 1
      → word_at m (Slot s HEAD) ≡ Some IDLE

  -- a call midway ends with the values that it has given back so far, and further ones
  abbrev pub CallsEndWithMore : Type 0
  CallsEndWithMore =
      (roots : ℕ) (m : Mem T) (h : History) (request : Request) (c : WholeCall) (m2 : Mem T) (given : List T)
      → IsMidway defers batch_size roots m h request (row_of c) m2 given
      → (more : List T) × AreValues defers batch_size roots m (given_back batch_size request h) (given ++ more)

-- the slot is vacant, and none before it is
pub record IsFirstVacant (uses : ℕ → Use) (s : ℕ) : Type 0 where
  pub below : s < LAST_SLOT + 1
  pub before : (t : ℕ) → t < s → uses t ≡ Vacant → ⊥
  pub vacant : uses s ≡ Vacant

-- the new slot is the first one that is vacant
abbrev pub NewSlotIsFirst : Type 0
NewSlotIsFirst = (uses : ℕ → Use) (s : ℕ) → new_slot uses ≡ Some s → IsFirstVacant uses s

-- and where there is no new one, none is vacant
abbrev pub NoNewSlotNoneVacant : Type 0
NoNewSlotNoneVacant = (uses : ℕ → Use) → new_slot uses ≡ None → (t : ℕ) → t < LAST_SLOT + 1 → uses t ≡ Vacant → ⊥

-- a block that wasn't reclaimed is whose it was, and one that was is nobody's
abbrev pub SparedStaysInHand : Type 0
SparedStaysInHand = (b : ℕ) (effects : List Effect) (hand : ℕ → Hand) → count b (taken_in effects) ≡ 0 → handed_by effects hand b ≡ hand b

abbrev pub ReclaimedIsNobodys : Type 0
ReclaimedIsNobodys = (b : ℕ) (effects : List Effect) (hand : ℕ → Hand) → (count b (taken_in effects) ≡ 0 → ⊥) → handed_by effects hand b ≡ NoBlock

-- the two ways to count are one
abbrev pub CountsAgree : Type 0
CountsAgree = (x : ℕ) (l : List ℕ) → times x l ≡ count x l
