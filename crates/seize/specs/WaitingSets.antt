-- The waiting-set model: what is reclaimed, and in which order, where calls come one after another.
-- Each slot has an open batch. A closed batch waits for a set of slots, and is reclaimed once that set is empty.
use Rattle.std.specs.Prelude.{ℕ, zero, suc, ◌+◌, max, Bool, false, not, ◌==◌, ◌||◌, nat_lt, List, [], ◌∷◌, ◌++◌, length, map, filter, if◌then◌else◌}

-- what was retired, in order, and the slots that the batch waits for
pub record Batch : Type 0 where
  pub retired : List ℕ
  pub waits_for : List ℕ

-- this number is retired once that other one is reclaimed
pub record Further : Type 0 where
  pub number : ℕ
  pub behind : ℕ

pub record Sets : Type 0 where
  pub open_batch : ℕ → List ℕ  -- by slot
  pub closed : List Batch  -- the newest first
  pub active : List ℕ  -- the active slots, ascending
  pub slots : ℕ  -- no slot from this number on was ever used
  pub further : List Further  -- the newest first

-- what happens to a slot
pub data Change : Type 0 where
  Enters : ℕ → Change  -- it becomes active
  Leaves : ℕ → Change
  Refreshes : ℕ → Change
  Retires : ℕ → ℕ → Change  -- by this slot, this number
  Flushes : ℕ → Change
  Defers : ℕ → ℕ → Change  -- this number, behind that one
  Ends : ℕ → Change  -- what this number was of has ended: nothing is behind it any more
  ReclaimsAll : Change

-- the sets after a change, and what it gave back, in order
pub record After : Type 0 where
  pub sets : Sets
  pub reclaimed : List ℕ

abbrev pub at_start : Sets
at_start = record { open_batch = λ _. []; closed = []; active = []; slots = 0; further = [] }

abbrev pub quietly : Sets → After
quietly w = record { sets = w; reclaimed = [] }

abbrev pub then_also : After → (Sets → After) → After
then_also a f = let b = f a.sets in record { sets = b.sets; reclaimed = a.reclaimed ++ b.reclaimed }

abbrev pub with_open : Sets → ℕ → List ℕ → Sets
with_open w slot numbers = record w { open_batch = (λ s. if s == slot then numbers else w.open_batch s); slots = max w.slots (slot + 1) }

abbrev pub with_active : Sets → List ℕ → Sets
with_active w slots = record w { active = slots }

abbrev pub with_closed : Sets → List Batch → Sets
with_closed w batches = record w { closed = batches }

abbrev pub without : ℕ → List ℕ → List ℕ
without slot slots = filter (λ s. not (s == slot)) slots

-- in ascending order
abbrev pub with_slot : ℕ → List ℕ → List ℕ
with_slot slot [] = slot ∷ []
with_slot slot (s ∷ slots) = if nat_lt slot s then slot ∷ (s ∷ slots) else s ∷ with_slot slot slots

-- the further values of a number, the one that was put last first
abbrev pub further_of : ℕ → List Further → List ℕ
further_of n further = map (λ f. f.number) (filter (λ f. f.behind == n) further)

abbrev pub further_of_all : List ℕ → List Further → List ℕ
further_of_all [] further = []
further_of_all (n ∷ numbers) further = further_of n further ++ further_of_all numbers further

abbrev pub is_one_of : ℕ → List ℕ → Bool
is_one_of n [] = false
is_one_of n (m ∷ numbers) = (n == m) || is_one_of n numbers

-- how many numbers the sets have
abbrev pub in_closed : List Batch → ℕ
in_closed [] = 0
in_closed (b ∷ batches) = length b.retired + in_closed batches

-- the open batches of the slots below n, ascending
abbrev pub opened : ℕ → Sets → List ℕ
opened zero w = []
opened (suc n) w = opened n w ++ w.open_batch n

abbrev pub size : Sets → ℕ
size w = length (opened w.slots w) + in_closed w.closed + length w.further

-- numbers are given back, in order
abbrev pub giving : List ℕ → Sets → After
giving numbers w = record { sets = record w { further = filter (λ f. not (is_one_of f.behind numbers)) w.further }; reclaimed = numbers }

-- nothing is behind the number any more
abbrev pub ended : ℕ → Sets → Sets
ended n w = record w { further = filter (λ f. not (f.behind == n)) w.further }

-- the slot's open batch is closed with the set of active slots
abbrev pub closing : ℕ → Sets → Sets
closing slot w = with_closed (with_open w slot []) (record { retired = w.open_batch slot; waits_for = w.active } ∷ w.closed)

-- a try does nothing if more slots are active than the batch has entries
abbrev pub is_enough : ℕ → Sets → Bool
is_enough slot w = not (nat_lt (length (w.open_batch slot)) (length w.active))

-- the batch waits for nobody once the slot is taken out of its set
abbrev pub is_done : ℕ → Batch → Bool
is_done slot b = length (without slot b.waits_for) == 0

-- of these closed batches, those that the slot was the last one to wait for
abbrev pub no_more : ℕ → List Batch → List Batch
no_more slot batches = filter (is_done slot) batches

-- and those that still wait
abbrev pub still_closed : ℕ → List Batch → List Batch
still_closed slot [] = []
still_closed slot (b ∷ batches) =
    if is_done slot b then still_closed slot batches else record { retired = b.retired; waits_for = without slot b.waits_for } ∷ still_closed slot batches

module _ (batch_size : ℕ) where
  abbrev pub is_full : ℕ → Sets → Bool
  is_full slot w = not (nat_lt (length (w.open_batch slot)) (max batch_size 1))

  -- The slot retires these numbers, one after another. With no slot active a batch is reclaimed at once, and what it puts is
  -- retired before the rest. The first argument bounds how often that can happen.
  abbrev pub retired_all : ℕ → ℕ → List ℕ → Sets → After
  retired_all n slot [] w = quietly w
  retired_all zero slot (x ∷ xs) w = quietly (with_open w slot (w.open_batch slot ++ x ∷ xs))
  retired_all (suc n) slot (x ∷ xs) w =
      let v = with_open w slot (w.open_batch slot ++ x ∷ []) in
      if not (is_full slot v) then retired_all (suc n) slot xs v else
      (if not (is_enough slot v) then retired_all (suc n) slot xs v else
      (if length v.active == 0
      then then_also (giving (v.open_batch slot) (with_open v slot [])) (retired_all n slot (further_of_all (v.open_batch slot) v.further ++ xs))
      else retired_all (suc n) slot xs (closing slot v)))

  -- these numbers are given back by the slot, and then it retires what they put
  abbrev pub given : ℕ → List ℕ → Sets → After
  given slot numbers w = then_also (giving numbers w) (λ v. retired_all (size w) slot (further_of_all numbers w.further) v)

  -- one batch after another
  abbrev pub given_all : ℕ → List Batch → Sets → After
  given_all slot [] w = quietly w
  given_all slot (b ∷ batches) w = then_also (given slot b.retired w) (given_all slot batches)

  abbrev pub retired : ℕ → ℕ → Sets → After
  retired slot number w = retired_all (suc (size w)) slot (number ∷ []) w

  abbrev pub flushed : ℕ → Sets → After
  flushed slot w =
      if length (w.open_batch slot) == 0 then quietly w else
      (if not (is_enough slot w) then quietly w else
      (if length w.active == 0 then given slot (w.open_batch slot) (with_open w slot []) else quietly (closing slot w)))

  -- The slot is taken out of every set that holds it now, newest batch first. What comes to wait meanwhile is newer than all that waited.
  abbrev pub counted : ℕ → Sets → After
  counted slot w =
      let a = given_all slot (no_more slot w.closed) (with_closed w []) in
      record { sets = with_closed a.sets (a.sets.closed ++ still_closed slot w.closed); reclaimed = a.reclaimed }

  abbrev pub left : ℕ → Sets → After
  left slot w = counted slot (with_active w (without slot w.active))

  -- these slots leave, one after another
  abbrev pub all_left : List ℕ → Sets → After
  all_left [] w = quietly w
  all_left (slot ∷ slots) w = then_also (left slot w) (all_left slots)

  -- the slots below n flush their open batches, ascending
  abbrev pub emptied : ℕ → Sets → After
  emptied zero w = quietly w
  emptied (suc n) w = then_also (emptied n w) (flushed n)

  -- again, until nothing waits in them; the first argument bounds how often
  abbrev pub emptied_all : ℕ → Sets → After
  emptied_all zero w = quietly w
  emptied_all (suc n) w = if length (opened w.slots w) == 0 then quietly w else then_also (emptied w.slots w) (emptied_all n)

  -- the active slots leave, ascending, and then all slots flush: with no slot active a flush reclaims the batch
  abbrev pub all_reclaimed : Sets → After
  all_reclaimed w = then_also (all_left w.active w) (λ v. emptied_all (size v) v)

  abbrev pub changed : Change → Sets → After
  changed (Enters s) w = quietly (record w { active = with_slot s w.active; slots = max w.slots (s + 1) })
  changed (Leaves s) w = left s w
  changed (Refreshes s) w = counted s w
  changed (Retires s n) w = retired s n w
  changed (Flushes s) w = flushed s w
  changed (Defers n behind) w = quietly (record w { further = record { number = n; behind = behind } ∷ w.further })
  changed (Ends n) w = quietly (ended n w)
  changed ReclaimsAll w = all_reclaimed w

  -- one change after another
  abbrev pub all_changed : List Change → Sets → After
  all_changed [] w = quietly w
  all_changed (c ∷ changes) w = then_also (changed c w) (all_changed changes)
