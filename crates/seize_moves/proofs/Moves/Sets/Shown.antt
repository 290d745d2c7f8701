-- What waiting sets a state shows. A batch stands in the order from the moment of its closing on, though its entries are pushed one after another.
use Rattle.std.specs.Prelude.{filter, map}
use Rattle.std.proofs.Common.{◌≡◌, ℕ, zero, suc, ◌<◌, ◌≤◌, Bool, true, false, cond, ltb, List, [], ◌∷◌, ◌++◌, refl, arith, ap}
use Rattle.seize.specs.WaitingSets.{Batch, Sets, further_of, at_start}
use Rattle.seize_moves.specs.Waiting.Held.{count}
use Rattle.seize_moves.proofs.Waiting.Counts.{map_same, filter_same}
use Rattle.seize_moves.proofs.Moves.State.Ghost.{Debt, Unscanned, Marked, Gone, Skipped, Owing, Loose, Counted, Stage, Unused, Open, Closing, Closed, Dead, Entry, State, list_of, is_active, opening, start}

-- the batch waits for this slot, whether its entry is still to be put, is on the list, or taken and not yet counted
abbrev pub waits : Debt → Bool
waits Unscanned = false
waits Marked = true
waits Gone = true
waits Skipped = false
waits Owing = true
waits (Loose i) = true
waits Counted = false

abbrev pub is_owing : Debt → Bool
is_owing Unscanned = false
is_owing Marked = false
is_owing Gone = false
is_owing Skipped = false
is_owing Owing = true
is_owing (Loose i) = false
is_owing Counted = false

-- the batch is closed and not reclaimed
abbrev pub is_shut : Stage → ℕ
is_shut Unused = 0
is_shut (Open s) = 0
is_shut (Closing i) = 1
is_shut Closed = 1
is_shut Dead = 0

-- the numbers below n that pass the test, ascending
abbrev pub ascending : (ℕ → Bool) → ℕ → List ℕ
ascending p zero = []
ascending p (suc n) = ascending p n ++ cond (p n) (n ∷ []) []

abbrev pub waiting : ℕ → (ℕ → Debt) → List ℕ
waiting n d = ascending (λ t. waits (d t)) n

abbrev pub batch_shown : ℕ → (ℕ → List ℕ) → (ℕ → ℕ → Debt) → ℕ → Batch
batch_shown n blocks debt x = record { retired = blocks x; waits_for = waiting n (debt x) }

abbrev pub batches_in : List Entry → List ℕ
batches_in es = map (λ (e : Entry). e.batch) es

-- of these batches, those that have an entry on the slot's list
abbrev pub listed_in : (ℕ → ℕ → Debt) → ℕ → List ℕ → List ℕ
listed_in debt t order = filter (λ x. is_owing (debt x t)) order

-- the order is of the closed batches, the newest first
pub record Models (n : ℕ) (m : State) (order : List ℕ) (w : Sets) : Type 0 where
  pub opened : (s : ℕ) → s < n → m.blocks (m.open_batch s) ≡ w.open_batch s
  pub closed : map (batch_shown n m.blocks m.debt) order ≡ w.closed
  pub ordered : (x : ℕ) → count x order ≡ is_shut (m.stage x)
  pub lists : (t : ℕ) → batches_in (list_of (m.head t)) ≡ listed_in m.debt t order
  pub active : ascending (λ t. is_active (m.head t)) n ≡ w.active
  pub put : (t : ℕ) → further_of t w.further ≡ m.deferred t
  pub unused : (s : ℕ) → w.slots ≤ s → w.open_batch s ≡ []

-- tests that agree below n
pub ascending_same : (p q : ℕ → Bool) (n : ℕ) → ((t : ℕ) → t < n → p t ≡ q t) → ascending p n ≡ ascending q n
ascending_same p q zero h = refl
ascending_same p q (suc n) h = both _ _ _ _ (ascending_same p q n (λ t l. h t (omega (arith, l)))) (h n (omega arith))
  where
    both : (a b : List ℕ) (y z : Bool) → a ≡ b → y ≡ z → a ++ cond y (n ∷ []) [] ≡ b ++ cond z (n ∷ []) []
    both a b y z e f = cc

pub ascending_none : (n : ℕ) → ascending (λ t. false) n ≡ []
ascending_none zero = refl
ascending_none (suc n) = let ih = ascending_none n in cc

pub models_start : (n : ℕ) → Models n (start n) [] at_start
models_start n = record {
  opened = λ s l. refl;
  closed = refl;
  ordered = λ x. at x (ltb x n);
  lists = λ t. refl;
  active = ascending_none n;
  put = λ t. refl;
  unused = λ s l. refl;
}
  where
    at : (x : ℕ) (b : Bool) → 0 ≡ is_shut (opening x b)
    at x true = refl
    at x false = refl

-- what two states have alike that show the same sets
pub record Alike (n : ℕ) (m m2 : State) : Type 0 where
  pub opened : (s : ℕ) → s < n → m2.blocks (m2.open_batch s) ≡ m.blocks (m.open_batch s)
  pub stages : (x : ℕ) → is_shut (m2.stage x) ≡ is_shut (m.stage x)
  pub blocks : (x : ℕ) → is_shut (m.stage x) ≡ 1 → m2.blocks x ≡ m.blocks x
  pub debts : (x t : ℕ) → is_shut (m.stage x) ≡ 1 → (waits (m2.debt x t) ≡ waits (m.debt x t)) × (is_owing (m2.debt x t) ≡ is_owing (m.debt x t))
  pub lists : (t : ℕ) → list_of (m2.head t) ≡ list_of (m.head t)
  pub active : (t : ℕ) → t < n → is_active (m2.head t) ≡ is_active (m.head t)
  pub put : (t : ℕ) → m2.deferred t ≡ m.deferred t

is_one : (k : ℕ) (s : Stage) → k ≡ is_shut s → (k ≡ 0 → ⊥) → is_shut s ≡ 1
is_one k s e ne = grind arith

-- a batch of the order is shut
pub shut_in : (n : ℕ) (m : State) (order : List ℕ) (w : Sets) → Models n m order w → (x : ℕ) → (count x order ≡ 0 → ⊥) → is_shut (m.stage x) ≡ 1
shut_in n m order w h x ne = is_one _ (m.stage x) (h.ordered x) ne

pub models_alike : (n : ℕ) (m m2 : State) (order : List ℕ) (w : Sets) → Models n m order w → Alike n m m2 → Models n m2 order w
models_alike n m m2 order w h a = record {
  opened = λ s l. cc (h.opened s l, a.opened s l);
  closed = cc (h.closed, map_same (batch_shown n m2.blocks m2.debt) (batch_shown n m.blocks m.debt) order (λ x ne. shown x (shut x ne)));
  ordered = λ x. cc (h.ordered x, a.stages x);
  lists = λ t. cc (ap batches_in (a.lists t), h.lists t, filter_same (λ x. is_owing (m2.debt x t)) (λ x. is_owing (m.debt x t)) order (λ x ne. (a.debts x t (shut x ne)).1));
  active = cc (h.active, ascending_same (λ t. is_active (m2.head t)) (λ t. is_active (m.head t)) n a.active);
  put = λ t. cc (h.put t, a.put t);
  unused = h.unused;
}
  where
    shut : (x : ℕ) → (count x order ≡ 0 → ⊥) → is_shut (m.stage x) ≡ 1
    shut x ne = shut_in n m order w h x ne

    shown : (x : ℕ) → is_shut (m.stage x) ≡ 1 → batch_shown n m2.blocks m2.debt x ≡ batch_shown n m.blocks m.debt x
    shown x e =
        let b = a.blocks x e in
        let s = ascending_same (λ t. waits (m2.debt x t)) (λ t. waits (m.debt x t)) n (λ t l. (a.debts x t e).0) in
        cc (b, s)
