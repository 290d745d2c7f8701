-- A settling row that runs alone follows the waiting sets: what it has reclaimed, and what the rest of its work comes to, part by part.
use Rattle.std.specs.Prelude.{◌==◌, filter, map, not}
use Rattle.std.proofs.Common.{◌≡◌, ℕ, ◌-◌, ◌^◌, ◌<◌, ◌≤◌, Bool, true, cond, List, [], ◌∷◌, ◌++◌, length, refl, ap, append_assoc}
use Rattle.seize.specs.Sequence.{taken_in}
use Rattle.seize.specs.WaitingSets.{Batch, Sets, After, with_open, with_closed, closing, is_enough, further_of_all, retired_all, flushed}
use Rattle.seize_rule.specs.Given.SeizeWaitingHeld.{count}
use Rattle.seize_rule.specs.Given.SeizeWaitingChanges.{kept}
use Rattle.seize_rule.proofs.Given.SeizeWaitingBound.{rounds, tried}
use Rattle.seize_rule.proofs.Given.SeizeWaitingCounts.{map_same, filter_same}
use Rattle.seize_rule.proofs.Given.SeizeWaitingWork.{rest_given}
use Rattle.seize_rule.proofs.Given.SeizeMovesState.Ghost.{Loose, Closing, State, counts, total, is_active, Head}
use Rattle.seize_rule.proofs.Given.SeizeMovesState.Rule.{Inv, Pending, open_length}
use Rattle.seize_rule.proofs.Given.SeizeMovesSets.Shown.{waits, waiting, batch_shown, batches_in, Models}
use Rattle.seize_rule.proofs.Given.SeizeMovesSets.Scan.{NoneGone, MarksActive}
use Rattle.seize_rule.proofs.Given.SeizeMovesSets.Working.{after_these, Working, on_comes}
use Rattle.seize_rule.proofs.Points.Told.{Part, Plain, Flushing, Trying, Marking, Pushing, Draining, NoneLeft}

-- the entries that the row has still to count are those of the batches to come that wait for the slot, in their order
pub record Lined (n i s : ℕ) (m : State) (order : List ℕ) (to_come : List Batch) : Type 0 where
  pub ahead : List ℕ
  pub behind : List ℕ
  pub order_is : order ≡ ahead ++ behind
  pub shown : map (batch_shown n m.blocks m.debt) behind ≡ to_come
  pub entries : batches_in (m.loose i) ≡ filter (λ x. waits (m.debt x s)) behind
  pub loose : (x : ℕ) → (count x behind ≡ 0 → ⊥) → waits (m.debt x s) ≡ true → m.debt x s ≡ Loose i
  pub from : (m.loose i ≡ [] → ⊥) → m.from i ≡ s

-- the sets, what the rest of the work comes to, and what was reclaimed since the row began; `given` is reclaimed with the row's next step of that kind
pub record Base (batch_size n i s : ℕ) (m : State) (before : List ℕ) (target : After) (order : List ℕ) (sets : Sets) (rest : After) (given : List ℕ) : Type 0 where
  pub working : Working batch_size n s m order target sets rest
  pub lined : Lined n i s m order working.to_come
  pub logged : taken_in m.log ++ given ≡ before ++ working.so_far

-- it reclaims what is left of a batch, retires what that put and what is pending, and then counts entries down
pub record Plainly (batch_size n i s : ℕ) (m : State) (before : List ℕ) (target : After) : Type 0 where
  pub order : List ℕ
  pub sets : Sets
  pub bound : ℕ
  pub base : Base batch_size n i s m before target order sets (rest_given batch_size bound s (m.left i) (m.puts i) (m.pending i) sets) []
  pub enough : rounds (sets.open_batch s) ((m.puts i ++ further_of_all (m.left i) sets.further) ++ m.pending i) (kept (m.left i) sets.further) ≤ bound

pub record Flushes (batch_size n i s : ℕ) (m : State) (before : List ℕ) (target : After) : Type 0 where
  pub order : List ℕ
  pub sets : Sets
  pub base : Base batch_size n i s m before target order sets (flushed batch_size s sets) []

-- what a try comes to, and the retirements behind it
abbrev pub rest_tried : ℕ → ℕ → ℕ → ℕ → List ℕ → Sets → After
rest_tried batch_size bound bound_back s pending sets =
    tried true (is_enough s sets) (length sets.active == 0)
    (retired_all batch_size bound s pending sets)
    (rest_given batch_size bound_back s (sets.open_batch s) [] pending (with_open sets s []))
    (retired_all batch_size bound s pending (closing s sets))

-- the bounds suffice
pub record TryBounds (bound bound_back s : ℕ) (pending : List ℕ) (sets : Sets) : Type 0 where
  pub enough : rounds (sets.open_batch s) pending sets.further ≤ bound
  pub back : rounds [] (further_of_all (sets.open_batch s) sets.further ++ pending) (kept (sets.open_batch s) sets.further) ≤ bound_back

pub record Tries (batch_size n i s : ℕ) (m : State) (before : List ℕ) (target : After) : Type 0 where
  pub order : List ℕ
  pub sets : Sets
  pub bound : ℕ
  pub bound_back : ℕ
  pub base : Base batch_size n i s m before target order sets (rest_tried batch_size bound bound_back s (m.pending i) sets) []
  pub bounds : TryBounds bound bound_back s (m.pending i) sets
  pub none_left : NoneLeft i m
  pub marks : MarksActive (m.open_batch s) m

abbrev pub AllActive : (ℕ → Head) → List ℕ → Type 0
AllActive head [] = Unit {0}
AllActive head (t ∷ ts) = (is_active (head t) ≡ true) × AllActive head ts

-- The batch y is closed: its entries are being put. Where no slot was active nobody waits for it, and it is reclaimed.
pub record Puts (batch_size n i s : ℕ) (m : State) (before : List ℕ) (target : After) : Type 0 where
  pub y : ℕ
  pub order : List ℕ
  pub sets : Sets
  pub bound : ℕ
  pub bound_back : ℕ
  pub some : Bool
  pub base : Base batch_size n i s m before target (y ∷ order) (closing s sets)
      (cond some (retired_all batch_size bound s (m.pending i) (closing s sets)) (rest_given batch_size bound_back s (sets.open_batch s) [] (m.pending i) (with_open sets s []))) []
  pub bounds : TryBounds bound bound_back s (m.pending i) sets
  pub none_left : NoneLeft i m
  pub stage : m.stage y ≡ Closing i
  pub blocks : m.blocks y ≡ sets.open_batch s
  pub counter : m.counter y ≡ 0
  pub uncounted : total counts (m.debt y) n ≡ 0
  pub not_loose : (t j : ℕ) → m.debt y t ≡ Loose j → ⊥
  pub active : AllActive m.head (m.todo y)
  pub stay : NoneGone y m
  pub waits_for : not (length (waiting n (m.debt y)) == 0) ≡ some
  pub newest : count y base.lined.behind ≡ 0

-- the block b is reclaimed next, and what it put is taken over
pub record Drains (batch_size n i s : ℕ) (m : State) (before : List ℕ) (target : After) : Type 0 where
  pub b : ℕ
  pub bs : List ℕ
  pub order : List ℕ
  pub sets : Sets
  pub bound : ℕ
  pub left : m.left i ≡ b ∷ bs
  pub base : Base batch_size n i s m before target order sets (rest_given batch_size bound s bs (m.puts i) (m.pending i) sets) (b ∷ [])
  pub enough : rounds (sets.open_batch s) ((m.puts i ++ further_of_all bs sets.further) ++ m.pending i) (kept bs sets.further) ≤ bound

abbrev pub Follows : ℕ → ℕ → ℕ → ℕ → Part → State → List ℕ → After → Type 0
Follows batch_size n i s Plain m before target = Plainly batch_size n i s m before target
Follows batch_size n i s Flushing m before target = Flushes batch_size n i s m before target
Follows batch_size n i s Trying m before target = Tries batch_size n i s m before target
Follows batch_size n i s (Marking t) m before target = Tries batch_size n i s m before target × (is_active (m.head t) ≡ true)
Follows batch_size n i s Pushing m before target = Puts batch_size n i s m before target
Follows batch_size n i s Draining m before target = Drains batch_size n i s m before target

-- what the batches to come show is left as it was
pub record BehindKept (n i s : ℕ) (m m2 : State) (behind : List ℕ) : Type 0 where
  pub same_loose : m2.loose i ≡ m.loose i
  pub same_from : m2.from i ≡ m.from i
  pub blocks : (x : ℕ) → (count x behind ≡ 0 → ⊥) → m2.blocks x ≡ m.blocks x
  pub debts : (x : ℕ) → (count x behind ≡ 0 → ⊥) → m2.debt x ≡ m.debt x

kept_shown : (n i s : ℕ) (m m2 : State) (behind : List ℕ) (to_come : List Batch) → BehindKept n i s m m2 behind
    → map (batch_shown n m.blocks m.debt) behind ≡ to_come → map (batch_shown n m2.blocks m2.debt) behind ≡ to_come
kept_shown n i s m m2 behind to_come k h = cc (map_same (batch_shown n m2.blocks m2.debt) (batch_shown n m.blocks m.debt) behind (λ x ne. shown_same x ne), h)
  where
    shown_same : (x : ℕ) → (count x behind ≡ 0 → ⊥) → batch_shown n m2.blocks m2.debt x ≡ batch_shown n m.blocks m.debt x
    shown_same x ne = let a = k.blocks x ne in let b = k.debts x ne in cc (a, ap (waiting n) b)

kept_entries : (n i s : ℕ) (m m2 : State) (behind : List ℕ) → BehindKept n i s m m2 behind
    → batches_in (m.loose i) ≡ filter (λ x. waits (m.debt x s)) behind → batches_in (m2.loose i) ≡ filter (λ x. waits (m2.debt x s)) behind
kept_entries n i s m m2 behind k h =
    cc (ap batches_in k.same_loose, h, filter_same (λ x. waits (m2.debt x s)) (λ x. waits (m.debt x s)) behind (λ x ne. ap (λ (d : ℕ → _). waits (d s)) (k.debts x ne)))

kept_loose : (n i s : ℕ) (m m2 : State) (behind : List ℕ) → BehindKept n i s m m2 behind
    → ((x : ℕ) → (count x behind ≡ 0 → ⊥) → waits (m.debt x s) ≡ true → m.debt x s ≡ Loose i)
    → (x : ℕ) → (count x behind ≡ 0 → ⊥) → waits (m2.debt x s) ≡ true → m2.debt x s ≡ Loose i
kept_loose n i s m m2 behind k h x ne w = rw (k.debts x ne) (h x ne (rw (k.debts x ne) at w))

kept_from : (n i s : ℕ) (m m2 : State) (behind : List ℕ) → BehindKept n i s m m2 behind → ((m.loose i ≡ [] → ⊥) → m.from i ≡ s) → (m2.loose i ≡ [] → ⊥) → m2.from i ≡ s
kept_from n i s m m2 behind k h ne = cc (k.same_from, h (λ z. ne (cc (k.same_loose, z))))

pub lined_on : (n i s : ℕ) (m m2 : State) (order order2 : List ℕ) (to_come : List Batch) (h : Lined n i s m order to_come) (ahead : List ℕ) → order2 ≡ ahead ++ h.behind
    → BehindKept n i s m m2 h.behind → Lined n i s m2 order2 to_come
lined_on n i s m m2 order order2 to_come h ahead e k = record {
  ahead = ahead;
  behind = h.behind;
  order_is = e;
  shown = kept_shown n i s m m2 h.behind to_come k h.shown;
  entries = kept_entries n i s m m2 h.behind k h.entries;
  loose = kept_loose n i s m m2 h.behind k h.loose;
  from = kept_from n i s m m2 h.behind k h.from;
}

all_logged : (l g r b f k : List ℕ) → r ≡ (l ++ g) ++ k → l ++ g ≡ b ++ f → r ≡ b ++ (f ++ k)
all_logged l g r b f k e h = cc (e, ap (λ (a : List ℕ). a ++ k) h, append_assoc b f k)

-- A move on which these numbers are given back, or are to be with the next step: the sets go from these to those, whatever stands aside.
pub base_on : (batch_size n i s : ℕ) (m m2 : State) (before : List ℕ) (target : After) (order order2 : List ℕ) (sets sets2 : Sets) (rest rest2 : After) (given given2 numbers : List ℕ)
    → (h : Base batch_size n i s m before target order sets rest given)
    → ((aside : List Batch) → Models n m order (with_closed sets (sets.closed ++ aside)) → Models n m2 order2 (with_closed sets2 (sets2.closed ++ aside)))
    → rest ≡ after_these numbers rest2
    → taken_in m2.log ++ given2 ≡ (taken_in m.log ++ given) ++ numbers
    → ((to_come : List Batch) → Lined n i s m order to_come → Lined n i s m2 order2 to_come)
    → Base batch_size n i s m2 before target order2 sets2 rest2 given2
base_on batch_size n i s m m2 before target order order2 sets sets2 rest rest2 given given2 numbers h models e logged lined = record {
  working = record {
    so_far = h.working.so_far ++ numbers;
    passed = h.working.passed;
    to_come = h.working.to_come;
    models = models (h.working.passed ++ h.working.to_come) h.working.models;
    comes = on_comes batch_size s target rest rest2 h.working.so_far numbers h.working.passed h.working.to_come h.working.comes e;
  };
  lined = lined h.working.to_come h.lined;
  logged = all_logged (taken_in m.log) given (taken_in m2.log ++ given2) before h.working.so_far numbers logged h.logged;
}

-- The same, where what is known of the batches to come matters: they are those that were.
pub base_kept : (batch_size n i s : ℕ) (m m2 : State) (before : List ℕ) (target : After) (order order2 : List ℕ) (sets sets2 : Sets) (rest rest2 : After) (given given2 numbers : List ℕ)
    → (h : Base batch_size n i s m before target order sets rest given)
    → ((aside : List Batch) → Models n m order (with_closed sets (sets.closed ++ aside)) → Models n m2 order2 (with_closed sets2 (sets2.closed ++ aside)))
    → rest ≡ after_these numbers rest2
    → taken_in m2.log ++ given2 ≡ (taken_in m.log ++ given) ++ numbers
    → (ahead : List ℕ) → order2 ≡ ahead ++ h.lined.behind → BehindKept n i s m m2 h.lined.behind
    → (b : Base batch_size n i s m2 before target order2 sets2 rest2 given2) × (b.lined.behind ≡ h.lined.behind)
base_kept batch_size n i s m m2 before target order order2 sets sets2 rest rest2 given given2 numbers h models e logged ahead order_is k = (
  record {
    working = record {
      so_far = h.working.so_far ++ numbers;
      passed = h.working.passed;
      to_come = h.working.to_come;
      models = models (h.working.passed ++ h.working.to_come) h.working.models;
      comes = on_comes batch_size s target rest rest2 h.working.so_far numbers h.working.passed h.working.to_come h.working.comes e;
    };
    lined = record {
      ahead = ahead;
      behind = h.lined.behind;
      order_is = order_is;
      shown = kept_shown n i s m m2 h.lined.behind h.working.to_come k h.lined.shown;
      entries = kept_entries n i s m m2 h.lined.behind k h.lined.entries;
      loose = kept_loose n i s m m2 h.lined.behind k h.lined.loose;
      from = kept_from n i s m m2 h.lined.behind k h.lined.from;
    };
    logged = all_logged (taken_in m.log) given (taken_in m2.log ++ given2) before h.working.so_far numbers logged h.logged;
  },
  refl,
)

-- no other row has anything of a batch in its hands
pub record Alone (i : ℕ) (m : State) : Type 0 where
  pub no_loose : (j : ℕ) → (j ≡ i → ⊥) → m.loose j ≡ []
  pub no_closing : (j : ℕ) → (j ≡ i → ⊥) → m.closing j ≡ 0

-- what a step of the row can rely on: words are words, and the open batch that no try is at is short
pub record Setting (batch_size n i s : ℕ) (p : Part) (m : State) : Type 0 where
  pub small : n < 2 ^ 64
  pub size_is_word : batch_size < 2 ^ 64
  pub slot_lt : s < n
  pub inv : Inv n m
  pub alone : Alone i m
  pub counted : Pending m.stage m.counter
  pub short : p ≡ Plain → open_length m s < 2 ^ 64 - 1
