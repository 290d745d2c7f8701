-- The collector's state with its lists as lists: what its words say, and beside them where each block is and what each batch and slot owe one another.
use Rattle.std.proofs.Common.{ℕ, zero, suc, ◌+◌, Bool, true, false, cond, eqb, ltb, List, [], ◌∷◌}
use Rattle.seize.specs.Law.{Effect, Place, Nowhere, Standing, With}
use Rattle.seize_moves.specs.Waiting.Held.{same}

-- f with v at k
abbrev pub put : {X : Type 0} → (ℕ → X) → ℕ → X → ℕ → X
put f k v j = cond (eqb j k) v (f j)

-- an entry on a slot's list: the block that it lies in, and the batch that it belongs to
pub record Entry : Type 0 where
  pub block : ℕ
  pub batch : ℕ

-- what a slot's head says; an active slot's list begins with its newest entry
pub data Head : Type 0 where
  Never : Head
  Free : Head
  Idle : Head
  Active : List Entry → Head

-- what a batch and a slot owe one another
pub data Debt : Type 0 where
  Unscanned : Debt
  Marked : Debt  -- the slot is to be given an entry
  Gone : Debt  -- it was to be given one, and its section has ended since
  Skipped : Debt
  Owing : Debt  -- an entry of the batch is on the slot's list
  Loose : ℕ → Debt  -- the entry is taken off the list, and this row hasn't counted it yet
  Counted : Debt

pub data Stage : Type 0 where
  Unused : Stage
  Open : ℕ → Stage  -- in this slot
  Closing : ℕ → Stage  -- by this row
  Closed : Stage
  Dead : Stage  -- reclaimed, or being reclaimed

pub data Life : Type 0 where
  IsFree : Life
  IsOwned : ℕ → Life  -- this row made it, and it was never linked
  IsLinked : Life
  IsUnlinked : ℕ → Life  -- by this row, which is to retire it
  IsDeferring : ℕ → ℕ → ℕ → Life  -- this row, within the section of this slot, is to put it on the list of this block
  IsDeferred : ℕ → Life  -- on the list of this block
  IsPending : ℕ → Life  -- this row is to retire it
  IsIn : ℕ → Life  -- in this batch
  IsDoomed : ℕ → Life  -- this row is to take it
  IsLeft : ℕ → Life  -- what it was of has ended, and this row is to take it

-- A row is a call under way; batches are numbered in the order of their opening.
pub record State : Type 0 where
  pub head : ℕ → Head  -- by slot
  pub holder : ℕ → ℕ  -- by slot: the row that holds its open batch, and one; 0 for none
  pub open_batch : ℕ → ℕ  -- by slot
  pub blocks : ℕ → List ℕ  -- by batch, in the order of their retirement
  pub counter : ℕ → ℕ  -- by batch
  pub stage : ℕ → Stage  -- by batch
  pub next : ℕ  -- the next batch
  pub debt : ℕ → ℕ → Debt  -- by batch and slot
  pub todo : ℕ → List ℕ  -- by batch: the slots marked and not yet passed
  pub seen : ℕ → ℕ  -- by batch: the slots below are scanned
  pub closing : ℕ → ℕ  -- by row: the batch that it closes, and one; 0 for none
  pub loose : ℕ → List Entry  -- by row: taken off a slot's list and not yet counted
  pub from : ℕ → ℕ  -- by row: the slot that they were taken from
  pub left : ℕ → List ℕ  -- by row: what it still has to take of the batch that it reclaims
  pub pending : ℕ → List ℕ  -- by row: blocks to be retired
  pub puts : ℕ → List ℕ  -- by row: blocks that were deferred until the batch that it reclaims, to be retired before the others
  pub section : ℕ → ℕ  -- by row: the slot within whose section it runs, and one; 0 for none
  pub defers : ℕ → ℕ  -- by row: the block that it is to put on another's list, and one; 0 for none
  pub deferred : ℕ → List ℕ  -- by block: its list, newest first
  pub carrier : ℕ → Bool  -- by block: it may have such a list
  pub life : ℕ → Life  -- by block
  pub log : List Effect

-- the entries of a batch
abbrev pub entries : ℕ → List Entry → ℕ
entries x [] = 0
entries x (e ∷ es) = same x e.batch + entries x es

abbrev pub list_of : Head → List Entry
list_of Never = []
list_of Free = []
list_of Idle = []
list_of (Active es) = es

abbrev pub is_active : Head → Bool
is_active Never = false
is_active Free = false
is_active Idle = false
is_active (Active es) = true

abbrev pub is_never : Head → Bool
is_never Never = true
is_never Free = false
is_never Idle = false
is_never (Active es) = false

-- the head without its list
abbrev pub emptied : Head → Head
emptied Never = Never
emptied Free = Free
emptied Idle = Idle
emptied (Active es) = Active []

abbrev pub is_marked : Debt → ℕ
is_marked Unscanned = 0
is_marked Marked = 1
is_marked Gone = 1
is_marked Skipped = 0
is_marked Owing = 0
is_marked (Loose i) = 0
is_marked Counted = 0

abbrev pub on_list : Debt → ℕ
on_list Unscanned = 0
on_list Marked = 0
on_list Gone = 0
on_list Skipped = 0
on_list Owing = 1
on_list (Loose i) = 0
on_list Counted = 0

abbrev pub is_loose : ℕ → Debt → ℕ
is_loose i Unscanned = 0
is_loose i Marked = 0
is_loose i Gone = 0
is_loose i Skipped = 0
is_loose i Owing = 0
is_loose i (Loose j) = same i j
is_loose i Counted = 0

-- an entry was put and not counted
abbrev pub owes : Debt → ℕ
owes Unscanned = 0
owes Marked = 0
owes Gone = 0
owes Skipped = 0
owes Owing = 1
owes (Loose i) = 1
owes Counted = 0

abbrev pub counts : Debt → ℕ
counts Unscanned = 0
counts Marked = 0
counts Gone = 0
counts Skipped = 0
counts Owing = 0
counts (Loose i) = 0
counts Counted = 1

-- an entry was put
abbrev pub was_put : Debt → ℕ
was_put Unscanned = 0
was_put Marked = 0
was_put Gone = 0
was_put Skipped = 0
was_put Owing = 1
was_put (Loose i) = 1
was_put Counted = 1

-- the sum of f over the slots below n
abbrev pub total : (Debt → ℕ) → (ℕ → Debt) → ℕ → ℕ
total f d zero = 0
total f d (suc n) = total f d n + f (d n)

abbrev pub is_in : ℕ → Life → ℕ
is_in x (IsIn y) = same x y
is_in x _ = 0

abbrev pub is_doomed : ℕ → Life → ℕ
is_doomed i (IsDoomed j) = same i j
is_doomed i _ = 0

abbrev pub is_pending : ℕ → Life → ℕ
is_pending i (IsPending j) = same i j
is_pending i _ = 0

abbrev pub is_deferred : ℕ → Life → ℕ
is_deferred t (IsDeferred u) = same t u
is_deferred t _ = 0

abbrev pub is_linked : Life → Bool
is_linked IsLinked = true
is_linked _ = false

-- the collector has it
abbrev pub is_given : Life → Bool
is_given (IsIn x) = true
is_given (IsDoomed i) = true
is_given _ = false

-- it was linked, and since then neither reclaimed nor of what has ended
abbrev pub is_used : Life → Bool
is_used IsFree = false
is_used (IsOwned i) = false
is_used (IsLeft i) = false
is_used _ = true

-- the row alone changes what becomes of it; of blocks that a caller has made or unlinked no row knows anything
abbrev pub of_row : ℕ → Life → Bool
of_row i (IsDeferring j s t) = eqb i j
of_row i (IsPending j) = eqb i j
of_row i (IsDoomed j) = eqb i j
of_row i _ = false

-- the caller has made it, or it is left to it
abbrev pub of_dropper : ℕ → Life → Bool
of_dropper i (IsOwned j) = eqb i j
of_dropper i (IsLeft j) = eqb i j
of_dropper i _ = false

-- it is on its way to the list of t, or on it
abbrev pub lies_with : ℕ → Life → Bool
lies_with t (IsDeferring i s u) = eqb t u
lies_with t (IsDeferred u) = eqb t u
lies_with t _ = false

-- a block that may have a list of deferred blocks now
abbrev pub can_carry : Life → Bool
can_carry IsFree = false
can_carry (IsOwned i) = false
can_carry IsLinked = true
can_carry (IsUnlinked i) = true
can_carry (IsDeferring i s t) = false
can_carry (IsDeferred t) = false
can_carry (IsPending i) = true
can_carry (IsIn x) = true
can_carry (IsDoomed i) = true
can_carry (IsLeft i) = false

-- where the law says that a block of this life is
abbrev pub place_of : (ℕ → Life) → Life → Place
place_of life IsFree = Nowhere
place_of life (IsOwned i) = Nowhere
place_of life IsLinked = Standing
place_of life (IsUnlinked i) = Nowhere
place_of life (IsDeferring i s t) = cond (is_linked (life t)) (With t) Nowhere
place_of life (IsDeferred t) = cond (is_linked (life t)) (With t) Nowhere
place_of life (IsPending i) = Nowhere
place_of life (IsIn x) = Nowhere
place_of life (IsDoomed i) = Nowhere
place_of life (IsLeft i) = Nowhere

-- the start: slot s has batch s open, with nothing in it

abbrev pub opening : ℕ → Bool → Stage
opening x true = Open x
opening x false = Unused

abbrev pub start : ℕ → State
start n = record {
  head = λ s. Never;
  holder = λ s. 0;
  open_batch = λ s. s;
  blocks = λ x. [];
  counter = λ x. 0;
  stage = λ x. opening x (ltb x n);
  next = n;
  debt = λ x t. Unscanned;
  todo = λ x. [];
  seen = λ x. 0;
  closing = λ i. 0;
  loose = λ i. [];
  from = λ i. 0;
  left = λ i. [];
  pending = λ i. [];
  puts = λ i. [];
  section = λ i. 0;
  defers = λ i. 0;
  deferred = λ b. [];
  carrier = λ b. false;
  life = λ b. IsFree;
  log = [];
}
