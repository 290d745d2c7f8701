-- The rule: what holds of the state between any two moves, and what a move of one row leaves to the others.
use Rattle.std.proofs.Common.{◌≡◌, ℕ, ◌+◌, ◌%◌, ◌^◌, ◌<◌, ◌≤◌, Bool, true, false, cond, eqb, List, [], ◌∷◌, ◌++◌, length, ◌⊎◌, refl}
use Rattle.seize.specs.Law.{Effect, Retired, where_is, is_open, holds, was_linked, is_retired, IsSound}
use Rattle.seize_moves.specs.Waiting.Held.{count}
use Rattle.seize_moves.proofs.Moves.State.Ghost.{Entry, Head, Never, Debt, Unscanned, Marked, Gone, Skipped, Owing, Loose, Counted, Stage, Unused, Open, Closing, Closed, Dead, Life, IsFree, IsOwned, IsLinked, IsUnlinked, IsDeferring, IsDeferred, IsPending, IsIn, IsDoomed, IsLeft, State, entries, list_of, is_active, is_never, emptied, is_marked, on_list, is_loose, owes, counts, was_put, total, is_in, is_doomed, is_pending, is_deferred, is_given, is_used, of_row, lies_with, can_carry, place_of}

-- a slot's list has just the entries that it owes, each once
abbrev pub Listed : (ℕ → Head) → (ℕ → ℕ → Debt) → Type 0
Listed head debt = (x t : ℕ) → entries x (list_of (head t)) ≡ on_list (debt x t)

-- and a row's loose entries are just those that it took off one slot's list
abbrev pub AllLoose : (ℕ → List Entry) → (ℕ → ℕ) → (ℕ → ℕ → Debt) → Type 0
AllLoose loose from debt = (x t i : ℕ) → cond (eqb t (from i)) (entries x (loose i)) 0 ≡ is_loose i (debt x t)

abbrev pub AllMarked : (ℕ → List ℕ) → (ℕ → ℕ → Debt) → Type 0
AllMarked todo debt = (x t : ℕ) → count t (todo x) ≡ is_marked (debt x t)

abbrev pub SeenIs : Debt → ℕ → ℕ → Type 0
SeenIs Unscanned t k = k ≤ t
SeenIs Marked t k = t < k
SeenIs Gone t k = t < k
SeenIs Skipped t k = t < k
SeenIs Owing t k = t < k
SeenIs (Loose i) t k = t < k
SeenIs Counted t k = t < k

abbrev pub Scanned : (ℕ → ℕ) → (ℕ → ℕ → Debt) → Type 0
Scanned seen debt = (x t : ℕ) → SeenIs (debt x t) t (seen x)

abbrev pub SameUnlessDead : Stage → ℕ → ℕ → Type 0
SameUnlessDead Unused a b = a ≡ b
SameUnlessDead (Open s) a b = a ≡ b
SameUnlessDead (Closing i) a b = a ≡ b
SameUnlessDead Closed a b = a ≡ b
SameUnlessDead Dead a b = Unit {0}

-- a batch's list has just the blocks that are in it, each once
abbrev pub Boxed : (ℕ → Stage) → (ℕ → List ℕ) → (ℕ → Life) → Type 0
Boxed stage blocks life = (x c : ℕ) → SameUnlessDead (stage x) (count c (blocks x)) (is_in x (life c))

abbrev pub ToTake : (ℕ → List ℕ) → (ℕ → Life) → Type 0
ToTake left life = (i c : ℕ) → count c (left i) ≡ is_doomed i (life c)

abbrev pub ToRetire : (ℕ → List ℕ) → (ℕ → List ℕ) → (ℕ → Life) → Type 0
ToRetire pending puts life = (i c : ℕ) → count c (pending i) + count c (puts i) ≡ is_pending i (life c)

abbrev pub AllDeferred : (ℕ → List ℕ) → (ℕ → Life) → Type 0
AllDeferred deferred life = (t c : ℕ) → count c (deferred t) ≡ is_deferred t (life c)

abbrev pub Fresh : ℕ → (ℕ → Stage) → Type 0
Fresh next stage = (x : ℕ) → next ≤ x → stage x ≡ Unused

abbrev pub Blank : (ℕ → Stage) → (ℕ → List ℕ) → Type 0
Blank stage blocks = (x : ℕ) → stage x ≡ Unused → blocks x ≡ []

-- what a batch's counter says, by its stage
abbrev pub AtStage : ℕ → Stage → ℕ → (ℕ → Debt) → ℕ → List ℕ → Type 0
AtStage n Unused c d k todo = (c ≡ 0) × (total was_put d n ≡ 0) × (k ≡ 0) × (todo ≡ [])
AtStage n (Open s) c d k todo = (c ≡ 0) × (total was_put d n ≡ 0)
AtStage n (Closing i) c d k todo = ((c + total counts d n) % 2 ^ 64 ≡ 0) × (n ≤ k)
AtStage n Closed c d k todo = (c ≡ total owes d n) × (n ≤ k) × (todo ≡ [])
AtStage n Dead c d k todo = total owes d n ≡ 0

abbrev pub Tally : ℕ → (ℕ → Stage) → (ℕ → ℕ) → (ℕ → ℕ → Debt) → (ℕ → ℕ) → (ℕ → List ℕ) → Type 0
Tally n stage counter debt seen todo = (x : ℕ) → AtStage n (stage x) (counter x) (debt x) (seen x) (todo x)

-- the batch isn't reclaimed before the slot was passed again
abbrev pub Waits : Debt → Type 0
Waits Unscanned = Unit {0}
Waits Marked = Unit {0}
Waits Gone = ⊥
Waits Skipped = ⊥
Waits Owing = Unit {0}
Waits (Loose i) = ⊥
Waits Counted = ⊥

-- a block that an open section holds is there, and the batch that has it waits for the slot
abbrev pub IsGuarded : Life → (ℕ → ℕ → Debt) → ℕ → Type 0
IsGuarded IsFree debt t = ⊥
IsGuarded (IsOwned i) debt t = ⊥
IsGuarded IsLinked debt t = Unit {0}
IsGuarded (IsUnlinked i) debt t = Unit {0}
IsGuarded (IsDeferring i s b) debt t = Unit {0}
IsGuarded (IsDeferred b) debt t = Unit {0}
IsGuarded (IsPending i) debt t = Unit {0}
IsGuarded (IsIn x) debt t = Waits (debt x t)
IsGuarded (IsDoomed i) debt t = ⊥
IsGuarded (IsLeft i) debt t = Unit {0}

abbrev pub Guarded : List Effect → (ℕ → Life) → (ℕ → ℕ → Debt) → Type 0
Guarded log life debt = (t c : ℕ) → holds t c log ≡ true → IsGuarded (life c) debt t

abbrev pub Opens : List Effect → (ℕ → Head) → Type 0
Opens log head = (t : ℕ) → is_open t log ≡ true → is_active (head t) ≡ true

abbrev pub Inside : List Effect → (ℕ → ℕ) → Type 0
Inside log section = (i s : ℕ) → section i ≡ s + 1 → is_open s log ≡ true

abbrev pub Reaches : List Effect → (ℕ → Life) → Type 0
Reaches log life = (c : ℕ) → where_is c log ≡ place_of life (life c)

abbrev pub IsLive : Stage → Bool
IsLive Unused = false
IsLive (Open s) = true
IsLive (Closing i) = true
IsLive Closed = true
IsLive Dead = false

-- a block that is in a batch is in one that is not reclaimed
abbrev pub Housed : (ℕ → Life) → (ℕ → Stage) → Type 0
Housed life stage = (c x : ℕ) → life c ≡ IsIn x → IsLive (stage x) ≡ true

-- the open batch of a slot that no row holds has no try under way
abbrev pub Rested : ℕ → (ℕ → ℕ) → (ℕ → ℕ) → (ℕ → ℕ) → (ℕ → List ℕ) → Type 0
Rested n holder open_batch seen todo = (s : ℕ) → s < n → holder s ≡ 0 → (seen (open_batch s) ≡ 0) × (todo (open_batch s) ≡ [])

-- the slots ever taken are a prefix of the numbers
abbrev pub Prefix : (ℕ → Head) → Type 0
Prefix head = (s t : ℕ) → s ≤ t → is_never (head s) ≡ true → is_never (head t) ≡ true

-- what is deferred is no carrier; what it is deferred on is one, and is neither free nor deferred itself
abbrev pub Carries : (ℕ → Bool) → (ℕ → Life) → Type 0
Carries carrier life = (c t : ℕ) → lies_with t (life c) ≡ true → (carrier c ≡ false) × (carrier t ≡ true) × (can_carry (life t) ≡ true)

-- a block on its way to another's list: its row's section holds that one
abbrev pub OnWay : List Effect → (ℕ → Life) → (ℕ → ℕ) → (ℕ → ℕ) → Type 0
OnWay log life section defers =
    (c i s t : ℕ) → life c ≡ IsDeferring i s t → (section i ≡ s + 1) × (defers i ≡ c + 1) × (holds s t log ≡ true)

-- what slots and rows owe for batches
pub record Debts (n : ℕ) (head : ℕ → Head) (loose : ℕ → List Entry) (from : ℕ → ℕ) (debt : ℕ → ℕ → Debt) (todo : ℕ → List ℕ) (seen : ℕ → ℕ) : Type 0 where
  pub listed : Listed head debt
  pub loosed : AllLoose loose from debt
  pub marked : AllMarked todo debt
  pub scanned : Scanned seen debt
  pub seen_le : (x : ℕ) → seen x ≤ n

-- the stages of batches
pub record Batches (n next : ℕ) (stage : ℕ → Stage) (blocks : ℕ → List ℕ) (counter : ℕ → ℕ) (debt : ℕ → ℕ → Debt) (seen : ℕ → ℕ) (todo : ℕ → List ℕ)
    (closing open_batch holder : ℕ → ℕ) : Type 0 where
  pub fresh : Fresh next stage
  pub blank : Blank stage blocks
  pub tally : Tally n stage counter debt seen todo
  pub mine : (s : ℕ) → s < n → stage (open_batch s) ≡ Open s
  pub sole : (s x : ℕ) → stage x ≡ Open s → open_batch s ≡ x
  pub below : (s x : ℕ) → stage x ≡ Open s → s < n
  pub shut : (i x : ℕ) → stage x ≡ Closing i → closing i ≡ x + 1
  pub rested : Rested n holder open_batch seen todo

-- where the blocks are
pub record Places (stage : ℕ → Stage) (blocks left pending puts deferred : ℕ → List ℕ) (carrier : ℕ → Bool) (life : ℕ → Life) : Type 0 where
  pub boxed : Boxed stage blocks life
  pub to_take : ToTake left life
  pub to_retire : ToRetire pending puts life
  pub all_deferred : AllDeferred deferred life
  pub housed : Housed life stage
  pub carries : Carries carrier life

-- what the log says of all this
pub record Logged (log : List Effect) (life : ℕ → Life) (debt : ℕ → ℕ → Debt) (head : ℕ → Head) (section defers : ℕ → ℕ) : Type 0 where
  pub guarded : Guarded log life debt
  pub opens : Opens log head
  pub inside : Inside log section
  pub reaches : Reaches log life
  pub given : (c : ℕ) → is_retired c log ≡ is_given (life c)
  pub used : (c : ℕ) → was_linked c log ≡ is_used (life c)
  pub on_way : OnWay log life section defers
  pub sound : IsSound log

pub record Slots (n : ℕ) (head : ℕ → Head) : Type 0 where
  pub outside : (t : ℕ) → n ≤ t → head t ≡ Never
  pub prefix : Prefix head

pub record Inv (n : ℕ) (m : State) : Type 0 where
  pub debts : Debts n m.head m.loose m.from m.debt m.todo m.seen
  pub batches : Batches n m.next m.stage m.blocks m.counter m.debt m.seen m.todo m.closing m.open_batch m.holder
  pub places : Places m.stage m.blocks m.left m.pending m.puts m.deferred m.carrier m.life
  pub logged : Logged m.log m.life m.debt m.head m.section m.defers
  pub slots : Slots n m.head

-- the row alone changes the batch: it holds the slot that has it open, or closes it
abbrev pub IsOf : ℕ → (ℕ → ℕ) → Stage → Bool
IsOf i holder Unused = false
IsOf i holder (Open s) = eqb (holder s) (i + 1)
IsOf i holder (Closing j) = eqb i j
IsOf i holder Closed = false
IsOf i holder Dead = false

-- what a row knows of itself
pub record Row : Type 0 where
  pub loose : List Entry
  pub from : ℕ
  pub left : List ℕ
  pub pending : List ℕ
  pub puts : List ℕ
  pub closing : ℕ
  pub section : ℕ
  pub defers : ℕ

abbrev pub row_of : State → ℕ → Row
row_of m j = record {
  loose = m.loose j;
  from = m.from j;
  left = m.left j;
  pending = m.pending j;
  puts = m.puts j;
  closing = m.closing j;
  section = m.section j;
  defers = m.defers j;
}

pub record SameRow (r r2 : Row) : Type 0 where
  pub loose : r2.loose ≡ r.loose
  pub from : r2.from ≡ r.from
  pub left : r2.left ≡ r.left
  pub pending : r2.pending ≡ r.pending
  pub puts : r2.puts ≡ r.puts
  pub closing : r2.closing ≡ r.closing
  pub section : r2.section ≡ r.section
  pub defers : r2.defers ≡ r.defers

-- what a row knows of a batch that it scans or closes
pub record Batch : Type 0 where
  pub stage : Stage
  pub blocks : List ℕ
  pub seen : ℕ
  pub todo : List ℕ
  pub done : ℕ

abbrev pub batch_of : ℕ → State → ℕ → Batch
batch_of n m x =
    record { stage = m.stage x; blocks = m.blocks x; seen = m.seen x; todo = m.todo x; done = total was_put (m.debt x) n }

pub record SameBatch (p q : Batch) : Type 0 where
  pub stage : q.stage ≡ p.stage
  pub blocks : q.blocks ≡ p.blocks
  pub seen : q.seen ≡ p.seen
  pub todo : q.todo ≡ p.todo
  pub done : q.done ≡ p.done

-- what the rows of a slot know of it
pub record Slot : Type 0 where
  pub head : Head  -- without its list
  pub holder : ℕ
  pub open_batch : ℕ

abbrev pub slot_of : State → ℕ → Slot
slot_of m t = record { head = emptied (m.head t); holder = m.holder t; open_batch = m.open_batch t }

pub record SameSlot (p q : Slot) : Type 0 where
  pub head : q.head ≡ p.head
  pub holder : q.holder ≡ p.holder
  pub open_batch : q.open_batch ≡ p.open_batch

-- how many blocks were retired
abbrev pub retirals : List Effect → ℕ
retirals [] = 0
retirals (Retired b ∷ log) = retirals log + 1
retirals (_ ∷ log) = retirals log

-- how long a slot's open batch is
abbrev pub open_length : State → ℕ → ℕ
open_length m t = length (m.blocks (m.open_batch t))

-- a slot that was marked by this batch needs no entry: it isn't active, or has left since
abbrev pub HasLeft : State → ℕ → ℕ → Type 0
HasLeft m x t = (is_active (m.head t) ≡ false) ⊎ (m.debt x t ≡ Gone)

-- a list of which nothing was taken: whatever is new stands before the rest
abbrev pub Grows : List Entry → List Entry → Type 0
Grows es es2 = (front : List Entry) × (es2 ≡ front ++ es)

-- what a move of row i, which works on slot s, leaves to the others; an open batch grows only as a block is retired under its slot
pub record Keeps (n i s : ℕ) (m m2 : State) : Type 0 where
  pub rows : (j : ℕ) → (j ≡ i → ⊥) → SameRow (row_of m j) (row_of m2 j)
  pub slots : (t : ℕ) → (t ≡ s → ⊥) → SameSlot (slot_of m t) (slot_of m2 t)
  pub holding : (j t : ℕ) → (j ≡ i → ⊥) → m.holder t ≡ j + 1 → (m2.holder t ≡ m.holder t) × (m2.open_batch t ≡ m.open_batch t)
  pub batches : (j x : ℕ) → (j ≡ i → ⊥) → IsOf j m.holder (m.stage x) ≡ true → SameBatch (batch_of n m x) (batch_of n m2 x)
  pub lives : (j c : ℕ) → (j ≡ i → ⊥) → of_row j (m.life c) ≡ true → (m2.life c ≡ m.life c) × (m2.carrier c ≡ m.carrier c)
  pub lists : (j c : ℕ) → (j ≡ i → ⊥) → m.life c ≡ IsDoomed j → m2.deferred c ≡ m.deferred c
  pub taken_slots : (t : ℕ) → is_never (m.head t) ≡ false → is_never (m2.head t) ≡ false
  -- a slot that another's batch has marked, and that has not left since: it was marked before, and its list has only grown
  pub marked : (j x t : ℕ) → (j ≡ i → ⊥) → m.stage x ≡ Closing j → m2.debt x t ≡ Marked → (m.debt x t ≡ Marked) × Grows (list_of (m.head t)) (list_of (m2.head t))
  pub lengths : (t : ℕ) → t < n → open_length m2 t + cond (eqb t s) (retirals m.log) 0 ≤ open_length m t + cond (eqb t s) (retirals m2.log) 0

pub record Moved (n i s : ℕ) (m m2 : State) : Type 0 where
  pub inv : Inv n m2
  pub keeps : Keeps n i s m m2

-- between whole steps no closed batch is at zero
abbrev pub Pending : (ℕ → Stage) → (ℕ → ℕ) → Type 0
Pending stage counter = (x : ℕ) → stage x ≡ Closed → 0 < counter x

pub same_row : (r : Row) → SameRow r r
same_row r = record { loose = refl; from = refl; left = refl; pending = refl; puts = refl; closing = refl; section = refl; defers = refl }

pub same_batch : (p : Batch) → SameBatch p p
same_batch p = record { stage = refl; blocks = refl; seen = refl; todo = refl; done = refl }

pub same_slot : (p : Slot) → SameSlot p p
same_slot p = record { head = refl; holder = refl; open_batch = refl }
