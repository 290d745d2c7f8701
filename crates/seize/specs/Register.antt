-- Registering: the first slot that can be taken, as one step after another.
use Rattle.std.specs.Prelude.{◌≡◌, ◌≢◌, ◌⊎◌, ℕ, zero, suc, ◌+◌, ◌<◌, ◌≤◌, ◌==◌, ◌||◌, Bool, nat_lt, if◌then◌else◌, Option, Some, None, Ok, Err}
use Rattle.seize_words.specs.declared.at.At.TheVariants.{Slot}
use Rattle.seize_words.specs.declared.fault.Fault.{Fault}
use Rattle.seize_words.specs.declared.fault.Fault.TheVariants.{SlotsUsedUp}
use Rattle.seize_words.specs.OneMemory.Place.{capacity}
use Rattle.seize_words.specs.OneMemory.Op.{Out, Load, Store, Exchange, Room, Found, Exchanged, Roomed}
use Rattle.seize_words.specs.OneMemory.Plan.{Plan, Then, Turn, Do, Now}
use Rattle.seize.specs.declared.states.TheConstants.{HEAD, NEVER, FREE, IDLE, ACTIVE, LAST_SLOT}
use Rattle.seize.specs.declared.advance.Advance.{Advance}
use Rattle.seize.specs.declared.advance.Advance.TheVariants.{Goes, Done, Refused}
use Rattle.seize.specs.declared.rows.register.Register.{Register}
use Rattle.seize.specs.declared.rows.register.Registering.{Registering}
use Rattle.seize.specs.declared.rows.register.Registering.TheVariants as at

-- Of so many buckets, from this one on, the one whose first slot it is. The buckets before bucket b hold `capacity b - 32` slots.
abbrev pub begun_of : ℕ → ℕ → ℕ → Option ℕ
begun_of zero bucket slot = None
begun_of (suc left) bucket slot = if slot + 32 == capacity bucket then Some bucket else begun_of left (bucket + 1) slot

-- the bucket whose first slot it is
abbrev pub bucket_begun : ℕ → Option ℕ
bucket_begun slot = begun_of 59 0 slot

-- The bucket that must have its words before this slot is taken: a scan reads the words of the slots ever taken and of the one
-- behind them, and asks for no memory.
abbrev pub bucket_needed : ℕ → Option ℕ
bucket_needed slot = if nat_lt slot LAST_SLOT then bucket_begun (slot + 1) else None

-- A slot that may need words before it is taken: the first of all, or the last of its bucket.
abbrev pub MayNeedRoom : ℕ → Type 0
MayNeedRoom slot = (slot ≡ 0) ⊎ (bucket_needed slot ≢ None)

-- Where the first buckets, so many of them, have their words, and the slot lies in one of them: if it needs no bucket, the next
-- slot has its words already, and else the bucket that it needs is one of these or the next one, and with it the next slot has them.
abbrev pub NeedsEnough : Type 0
NeedsEnough =
    (slot buckets : ℕ) → slot < LAST_SLOT → slot + 32 < capacity buckets → bucket_needed slot ≡ None → slot + 1 + 32 < capacity buckets

abbrev pub NeedsTheNext : Type 0
NeedsTheNext =
    (slot buckets bucket : ℕ) → slot + 32 < capacity buckets → bucket_needed slot ≡ Some bucket
    → (bucket ≤ 58) × (capacity bucket ≤ capacity buckets) × (slot + 1 + 32 < capacity (bucket + 1))

-- a head that says that its slot can be taken
abbrev pub can_be_taken : ℕ → Bool
can_be_taken head = (head == NEVER) || (head == FREE)

-- how registering goes on, and what it answers
abbrev pub to : Register → Registering → Advance ℕ → Register × Advance ℕ
to c stands progress = (record c { stands = stands }, progress)

abbrev pub going : Register → Registering → Register × Advance ℕ
going c stands = to c stands Goes

abbrev pub refused : Register → Fault → Register × Advance ℕ
refused c fault = to c (at.Refused fault) (Refused fault)

abbrev pub registered : Register → Register × Advance ℕ
registered c = to c at.Registered (Done c.slot)

-- with the next slot, if there is one
abbrev pub further : Register → Register × Advance ℕ
further c = if nat_lt c.slot LAST_SLOT then going (record c { slot = c.slot + 1 }) at.Look else refused c SlotsUsedUp

-- with a slot that can be taken, once the bucket that it needs has its words
abbrev pub taking : Register → ℕ → Option ℕ → Register × Advance ℕ
taking c seen (Some bucket) = going c (at.Widen bucket seen)
taking c seen None = going c (at.Take seen)

module _ {T : Type 0} where
  -- the first bucket has its words
  abbrev pub begun : Register → Out T → Then T (Register × Advance ℕ)
  begun c (Roomed (Ok made)) = Now (going c at.Look)
  begun c (Roomed (Err fault)) = Now (refused c fault)
  begun c _ = Now (c, Goes)

  abbrev pub looked : Register → Out T → Then T (Register × Advance ℕ)
  looked c (Found head) = Now (if can_be_taken head then taking c head (bucket_needed c.slot) else further c)
  looked c _ = Now (c, Goes)

  -- the bucket that the slot needs has its words
  abbrev pub widened : Register → ℕ → Out T → Then T (Register × Advance ℕ)
  widened c seen (Roomed (Ok made)) = Now (going c (at.Take seen))
  widened c seen (Roomed (Err fault)) = Now (refused c fault)
  widened c seen _ = Now (c, Goes)

  -- the slot is taken, unless another caller was faster
  abbrev pub taken : Register → Out T → Then T (Register × Advance ℕ)
  taken c (Exchanged (Ok found)) = Now (if c.enters then going c at.Enter else registered c)
  taken c (Exchanged (Err found)) = Now (further c)
  taken c _ = Now (c, Goes)

  abbrev pub plan_at : Register → Registering → Plan T (Register × Advance ℕ)
  plan_at c at.Begin = Do (Room 0) (begun c)
  plan_at c at.Look = Do (Load (Slot c.slot HEAD)) (looked c)
  plan_at c (at.Widen bucket seen) = Do (Room bucket) (widened c seen)
  plan_at c (at.Take seen) = Do (Exchange (Slot c.slot HEAD) seen IDLE) (taken c)
  plan_at c at.Enter = Do (Store (Slot c.slot HEAD) ACTIVE) (λ out. Now (registered c))
  plan_at c at.Registered = Turn (Now (c, Done c.slot))
  plan_at c (at.Refused fault) = Turn (Now (c, Refused fault))

  abbrev pub register_plan : Register → Plan T (Register × Advance ℕ)
  register_plan c = plan_at c c.stands
