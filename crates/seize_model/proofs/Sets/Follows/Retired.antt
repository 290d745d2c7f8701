-- Holding the batch, giving it up, a flush that begins and a block that is retired: a row that runs alone follows the waiting sets through each.
use Rattle.std.specs.Prelude.{◌==◌, nat_lt, not, max}
use Rattle.std.proofs.Common.{◌≡◌, ℕ, zero, suc, ◌+◌, ◌-◌, ◌%◌, ◌^◌, ◌<◌, ◌≤◌, Bool, true, false, cond, List, [], ◌∷◌, ◌++◌, length, refl, arith, ap, length-append, subst, sym}
use Rattle.std.proofs.lemmas.Bool.{ltb-true, ltb-false, lt-ltb, le-ltb}
use Rattle.std.proofs.lemmas.List.{append-nil}
use Rattle.seize.specs.WaitingSets.{Sets, After, with_open, with_closed, closing, quietly, further_of_all, is_full, is_enough, size, retired_all, flushed, given}
use Rattle.seize_rule.specs.Given.SeizeWaitingHeld.{count, Once}
use Rattle.seize_rule.specs.Given.SeizeWaitingChanges.{kept}
use Rattle.seize_rule.proofs.Given.SeizeWaitingBound.{rounds, rounds_given, rounds_appended, once_appended, once_counted, set_opened, tried}
use Rattle.seize_rule.proofs.Given.SeizeWaitingWork.{rest_given, given_begins}
use Rattle.seize_rule.proofs.Given.SeizeWaitingRetired.{one_retired, flush_tried, given_bound}
use Rattle.seize_rule.proofs.Given.SeizeMovesState.Ghost.{State}
use Rattle.seize_rule.proofs.Given.SeizeMovesState.Rule.{open_length}
use Rattle.seize_rule.proofs.Given.SeizeMovesSets.Shown.{Models}
use Rattle.seize_rule.proofs.Given.SeizeMovesSets.Counters.{once_shown}
use Rattle.seize_rule.proofs.Given.SeizeMovesSets.Moved.{appended_models}
use Rattle.seize_rule.proofs.Given.SeizeMovesSets.Scan.{begins_marking}
use Rattle.seize_rule.proofs.Given.SeizeMovesSets.Tries.{unused_anew}
use Rattle.seize_rule.proofs.Given.SeizeMovesState.Moves
use Rattle.seize_rule.proofs.Points.Told.{Part, Plain, Flushing, Trying, Marking, Pushing, Draining, NoneLeft, NotScanned, length_word}
use Rattle.seize_model.proofs.Sets.Follows.Work.{Base, Plainly, Flushes, rest_tried, TryBounds, Tries, Puts, Follows, Setting}
use Rattle.seize_model.proofs.Sets.Follows.Kept.{OpenOnly, open_on, rest_on, Retires, plainly_retires, retires_plainly}
use Rattle.seize.proofs.Given.General.{at_most_itself as not_longer}

-- no move
pub stays_follows : (batch_size n i s : ℕ) (p p2 : Part) (m m2 : State) (before : List ℕ) (target : After) → Setting batch_size n i s p m
    → m2 ≡ m → p2 ≡ p → Follows batch_size n i s p m before target → Follows batch_size n i s p2 m2 before target
stays_follows batch_size n i s p p2 m m2 before target st e f h =
    subst (λ (k : State). Follows batch_size n i s p2 k before target) (sym e) (subst (λ (q : Part). Follows batch_size n i s q m before target) (sym f) h)

-- who holds a batch is no matter

abbrev pub reheld : State → (ℕ → ℕ) → State
reheld m holder = record m { holder = holder }

reheld_models : (n : ℕ) (m : State) (holder : ℕ → ℕ) (order : List ℕ) (w : Sets) → Models n m order w → Models n (reheld m holder) order w
reheld_models n m holder order w h = record {
  opened = h.opened;
  closed = h.closed;
  ordered = h.ordered;
  lists = h.lists;
  active = h.active;
  put = h.put;
  unused = h.unused;
}

abbrev reheld_base : (batch_size n i s : ℕ) (m : State) (holder : ℕ → ℕ) (before : List ℕ) (target : After) (order : List ℕ) (sets : Sets) (rest : After) (given : List ℕ)
    → Base batch_size n i s m before target order sets rest given → Base batch_size n i s (reheld m holder) before target order sets rest given
reheld_base batch_size n i s m holder before target order sets rest given h = record {
  working = record {
    so_far = h.working.so_far;
    passed = h.working.passed;
    to_come = h.working.to_come;
    models = reheld_models n m holder order _ h.working.models;
    comes = h.working.comes;
  };
  lined = record {
    ahead = h.lined.ahead;
    behind = h.lined.behind;
    order_is = h.lined.order_is;
    shown = h.lined.shown;
    entries = h.lined.entries;
    loose = h.lined.loose;
    from = h.lined.from;
  };
  logged = h.logged;
}

reheld_plainly : (batch_size n i s : ℕ) (m : State) (holder : ℕ → ℕ) (before : List ℕ) (target : After)
    → Plainly batch_size n i s m before target → Plainly batch_size n i s (reheld m holder) before target
reheld_plainly batch_size n i s m holder before target h = record {
  order = h.order;
  sets = h.sets;
  bound = h.bound;
  base = reheld_base batch_size n i s m holder before target h.order h.sets _ [] h.base;
  enough = h.enough;
}

reheld_tries : (batch_size n i s : ℕ) (m : State) (holder : ℕ → ℕ) (before : List ℕ) (target : After)
    → Tries batch_size n i s m before target → Tries batch_size n i s (reheld m holder) before target
reheld_tries batch_size n i s m holder before target h = record {
  order = h.order;
  sets = h.sets;
  bound = h.bound;
  bound_back = h.bound_back;
  base = reheld_base batch_size n i s m holder before target h.order h.sets _ [] h.base;
  bounds = h.bounds;
  none_left = record { left = h.none_left.left; puts = h.none_left.puts };
  marks = record { marks = h.marks.marks; stay = h.marks.stay };
}

reheld_puts : (batch_size n i s : ℕ) (m : State) (holder : ℕ → ℕ) (before : List ℕ) (target : After)
    → Puts batch_size n i s m before target → Puts batch_size n i s (reheld m holder) before target
reheld_puts batch_size n i s m holder before target h = record {
  y = h.y;
  order = h.order;
  sets = h.sets;
  bound = h.bound;
  bound_back = h.bound_back;
  some = h.some;
  base = reheld_base batch_size n i s m holder before target _ _ _ [] h.base;
  bounds = h.bounds;
  none_left = record { left = h.none_left.left; puts = h.none_left.puts };
  stage = h.stage;
  blocks = h.blocks;
  counter = h.counter;
  uncounted = h.uncounted;
  not_loose = h.not_loose;
  active = h.active;
  stay = h.stay;
  waits_for = h.waits_for;
  newest = h.newest;
}

reheld_follows : (batch_size n i s : ℕ) (p : Part) (m : State) (holder : ℕ → ℕ) (before : List ℕ) (target : After)
    → Follows batch_size n i s p m before target → Follows batch_size n i s p (reheld m holder) before target
reheld_follows batch_size n i s Plain m holder before target h = reheld_plainly batch_size n i s m holder before target h
reheld_follows batch_size n i s Flushing m holder before target h = record {
  order = h.order;
  sets = h.sets;
  base = reheld_base batch_size n i s m holder before target h.order h.sets _ [] h.base;
}
reheld_follows batch_size n i s Trying m holder before target h = reheld_tries batch_size n i s m holder before target h
reheld_follows batch_size n i s (Marking t) m holder before target h = (reheld_tries batch_size n i s m holder before target h.0, h.1)
reheld_follows batch_size n i s Pushing m holder before target h = reheld_puts batch_size n i s m holder before target h
reheld_follows batch_size n i s Draining m holder before target h = record {
  b = h.b;
  bs = h.bs;
  order = h.order;
  sets = h.sets;
  bound = h.bound;
  left = h.left;
  base = reheld_base batch_size n i s m holder before target h.order h.sets _ _ h.base;
  enough = h.enough;
}

pub holds_follows : (batch_size n i s : ℕ) (p : Part) (m : State) (before : List ℕ) (target : After) → Setting batch_size n i s p m
    → Follows batch_size n i s p m before target → Follows batch_size n i s p (Moves.held m i s) before target
holds_follows batch_size n i s p m before target st h = reheld_follows batch_size n i s p m _ before target h

pub gives_follows : (batch_size n i s : ℕ) (m : State) (before : List ℕ) (target : After) → Setting batch_size n i s Plain m
    → Plainly batch_size n i s m before target → Plainly batch_size n i s (Moves.gave m s) before target
gives_follows batch_size n i s m before target st h = reheld_plainly batch_size n i s m _ before target h

-- a flush

by_test : (b c : Bool) (p q : After) → b ≡ c → (cond b p q) ≡ cond c p q
by_test b c p q e = ap (λ (y : Bool). cond y p q) e

-- of no batch
pub holds_none_follows : (batch_size n i s : ℕ) (m : State) (before : List ℕ) (target : After) → Setting batch_size n i s Flushing m
    → NoneLeft i m → m.pending i ≡ [] → m.blocks (m.open_batch s) ≡ []
    → Flushes batch_size n i s m before target → Plainly batch_size n i s (Moves.held m i s) before target
holds_none_follows batch_size n i s m before target st none e f h =
    let w = h.base.working.models.opened s st.slot_lt in
    let o : h.sets.open_batch s ≡ [] = cc (w, f) in
    let rest : flushed batch_size s h.sets ≡ quietly h.sets = by_test (length (h.sets.open_batch s) == 0) true _ _ (ap (λ (l : List ℕ). length l == 0) o) in
    let retires : Retires batch_size n i s m before target [] = record {
      order = h.order;
      sets = h.sets;
      bound = rounds (h.sets.open_batch s) [] h.sets.further;
      base = rest_on batch_size n i s m before target h.order h.sets _ _ [] rest h.base;
      enough = not_longer _;
    } in
    reheld_plainly batch_size n i s m _ before target (retires_plainly batch_size n i s m before target [] none e retires)

-- what a flush of a batch comes to
flush_is : (batch_size bound s : ℕ) (pending : List ℕ) (sets : Sets) → (sets.open_batch s ≡ [] → ⊥) → pending ≡ []
    → flushed batch_size s sets ≡ rest_tried batch_size bound (size (with_open sets s [])) s pending sets
flush_is batch_size bound s pending sets ne e =
    let a = by_test (length (sets.open_batch s) == 0) false (quietly sets) (tried true (is_enough s sets) (length sets.active == 0) (quietly sets) (given batch_size s (sets.open_batch s) (with_open sets s [])) (quietly (closing s sets))) (some (sets.open_batch s) ne) in
    let b = ap (λ (back : After). tried true (is_enough s sets) (length sets.active == 0) (quietly sets) back (quietly (closing s sets))) (given_begins batch_size s (sets.open_batch s) (with_open sets s [])) in
    let c = flush_tried batch_size s sets in
    subst (λ (l : List ℕ). flushed batch_size s sets ≡ rest_tried batch_size bound (size (with_open sets s [])) s l sets) (sym e) (cc (a, b, c))
  where
    some : (l : List ℕ) → (l ≡ [] → ⊥) → (length l == 0) ≡ false
    some [] k = absurd (k refl)
    some (x ∷ l) k = grind arith

-- what an open batch that is reclaimed puts is no more than the sets have numbers
back_bound : (s : ℕ) (pending : List ℕ) (sets : Sets) → ((u : ℕ) → sets.slots ≤ u → sets.open_batch u ≡ []) → ((c : ℕ) → count c (sets.open_batch s) ≤ 1) → pending ≡ []
    → rounds [] (further_of_all (sets.open_batch s) sets.further ++ pending) (kept (sets.open_batch s) sets.further) ≤ size (with_open sets s [])
back_bound s pending sets unused once e =
    let a = given_bound (with_open sets s []) s (sets.open_batch s) (λ u k. unused_anew s u sets unused k) once in
    let none = set_opened sets s [] in
    let b = subst (λ (o : List ℕ). rounds o (further_of_all (sets.open_batch s) sets.further) (kept (sets.open_batch s) sets.further) ≤ size (with_open sets s [])) none a in
    let c : further_of_all (sets.open_batch s) sets.further ++ pending ≡ further_of_all (sets.open_batch s) sets.further = cc (ap (λ (l : List ℕ). further_of_all (sets.open_batch s) sets.further ++ l) e, append-nil (further_of_all (sets.open_batch s) sets.further)) in
    subst (λ (l : List ℕ). rounds [] l (kept (sets.open_batch s) sets.further) ≤ size (with_open sets s [])) (sym c) b

-- a flush begins its try
pub begins_follows : (batch_size n i s : ℕ) (m : State) (before : List ℕ) (target : After) → Setting batch_size n i s Flushing m
    → NoneLeft i m → m.pending i ≡ [] → (m.blocks (m.open_batch s) ≡ [] → ⊥) → NotScanned (m.open_batch s) m
    → Flushes batch_size n i s m before target → Tries batch_size n i s m before target
begins_follows batch_size n i s m before target st none e ne fresh h =
    let models = h.base.working.models in
    let w = models.opened s st.slot_lt in
    let bound = rounds (h.sets.open_batch s) (m.pending i) h.sets.further in
    let once = once_shown n i s m h.order _ st.slot_lt st.inv models in
    record {
      order = h.order;
      sets = h.sets;
      bound = bound;
      bound_back = size (with_open h.sets s []);
      base = rest_on batch_size n i s m before target h.order h.sets _ _ [] (flush_is batch_size bound s (m.pending i) h.sets (λ z. ne (cc (w, z))) e) h.base;
      bounds = record {
        enough = not_longer _;
        back = back_bound s (m.pending i) h.sets models.unused (once_counted (h.sets.open_batch s) (m.pending i) h.sets.further once) e;
      };
      none_left = none;
      marks = begins_marking (m.open_batch s) m (st.inv.debts.scanned (m.open_batch s)) fresh.seen;
    }

-- a block is retired

word_length : (k : ℕ) → k < 2 ^ 64 - 1 → (k % 2 ^ 64 + 1) % 2 ^ 64 ≡ k + 1
word_length k l = omega (arith, l)

-- the test of the row says whether the batch is full
full_is : (batch_size k : ℕ) (b : Bool) → nat_lt (k + 1) batch_size ≡ b → not (nat_lt (k + 1) (max batch_size 1)) ≡ not b
full_is batch_size k true e = let l = ltb-true (k + 1) batch_size e in let a = lt-ltb (k + 1) (max batch_size 1) (omega (arith, l)) in ap not a
full_is batch_size k false e = let l = ltb-false (k + 1) batch_size e in let a = le-ltb (k + 1) (max batch_size 1) (omega (arith, l)) in ap not a

appended_full : (batch_size n i s b : ℕ) (t : Bool) (m : State) (order : List ℕ) (w : Sets) → Models n m order w → Setting batch_size n i s Plain m → nat_lt (length_word m s) batch_size ≡ t
    → is_full batch_size s (with_open w s (w.open_batch s ++ b ∷ [])) ≡ not t
appended_full batch_size n i s b t m order w h st e =
    let a = word_length (open_length m s) (st.short refl) in
    let f = full_is batch_size (open_length m s) t (subst (λ (k : ℕ). nat_lt k batch_size ≡ t) a e) in
    let o = set_opened w s (w.open_batch s ++ b ∷ []) in
    let k : length ((with_open w s (w.open_batch s ++ b ∷ [])).open_batch s) ≡ open_length m s + 1 =
    let c = h.opened s st.slot_lt in let d = length-append (w.open_batch s) (b ∷ []) in let p = ap (λ (l : List ℕ). length l) o in let q = ap (λ (l : List ℕ). length l) c in omega (arith, d, p, q) in
    subst (λ (z : ℕ). not (nat_lt z (max batch_size 1)) ≡ not t) (sym k) f

appended_only : (i x b : ℕ) (bs : List ℕ) (m : State) → OpenOnly i x m (Moves.appended m i b bs x)
appended_only i x b bs m = record { same_loose = refl; same_from = refl; blocks = λ y ne. grind (arith, ne); debts = λ y ne. refl; logged = refl }

-- and it goes into the batch, which is tried where it is full
appended_base : (batch_size bound n i s b : ℕ) (bs : List ℕ) (m : State) (before : List ℕ) (target : After) (order : List ℕ) (sets : Sets) → Setting batch_size n i s Plain m
    → Base batch_size n i s m before target order sets (retired_all batch_size (suc bound) s (b ∷ bs) sets) [] →
    let v = with_open sets s (sets.open_batch s ++ b ∷ []) in
    Base batch_size n i s (Moves.appended m i b bs (m.open_batch s)) before target order v
    (tried (is_full batch_size s v) (is_enough s v) (length v.active == 0)
    (retired_all batch_size (suc bound) s bs v)
    (rest_given batch_size bound s (v.open_batch s) [] bs (with_open v s []))
    (retired_all batch_size (suc bound) s bs (closing s v))) []
appended_base batch_size bound n i s b bs m before target order sets st h =
    open_on batch_size n i s (m.open_batch s) m _ before target order [] sets _ _ _ h (st.inv.batches.mine s st.slot_lt) (appended_only i (m.open_batch s) b bs m)
    (λ aside k. appended_models n i s b bs m order (with_closed sets (sets.closed ++ aside)) st.inv st.slot_lt k)
    (one_retired batch_size bound s b bs sets)

appended_pending : (m : State) (i b x : ℕ) (bs : List ℕ) → (Moves.appended m i b bs x).pending i ≡ bs
appended_pending m i b x bs = grind arith

appended_none : (m : State) (i b x : ℕ) (bs : List ℕ) → NoneLeft i m → NoneLeft i (Moves.appended m i b bs x)
appended_none m i b x bs none = record { left = none.left; puts = none.puts }

-- the batch is short still
appended_short : (batch_size n i s b : ℕ) (bs : List ℕ) (m : State) (before : List ℕ) (target : After) → Setting batch_size n i s Plain m → nat_lt (length_word m s) batch_size ≡ true
    → (h : Retires batch_size n i s m before target (b ∷ bs)) → (k : ℕ) → h.bound ≡ k → Retires batch_size n i s (Moves.appended m i b bs (m.open_batch s)) before target bs
appended_short batch_size n i s b bs m before target st short h zero e = let l = h.enough in absurd (omega (arith, l, e))
appended_short batch_size n i s b bs m before target st short h (suc k) e =
    let sets = h.sets in
    let v = with_open sets s (sets.open_batch s ++ b ∷ []) in
    let base = subst (λ (z : ℕ). Base batch_size n i s m before target h.order sets (retired_all batch_size z s (b ∷ bs) sets) []) e h.base in
    let full = appended_full batch_size n i s b true m h.order _ h.base.working.models st short in
    record {
      order = h.order;
      sets = v;
      bound = suc k;
      base = rest_on batch_size n i s _ before target h.order v _ _ []
          (ap (λ (f : Bool). tried f (is_enough s v) (length v.active == 0) (retired_all batch_size (suc k) s bs v) (rest_given batch_size k s (v.open_batch s) [] bs (with_open v s [])) (retired_all batch_size (suc k) s bs (closing s v))) full)
          (appended_base batch_size k n i s b bs m before target h.order sets st base);
      enough = subst (λ (o : List ℕ). rounds o bs sets.further ≤ suc k) (sym (set_opened sets s (sets.open_batch s ++ b ∷ [])))
          (rounds_appended (sets.open_batch s) bs sets.further b (suc k) (subst (λ (z : ℕ). rounds (sets.open_batch s) (b ∷ bs) sets.further ≤ z) e h.enough));
    }

pub appends_follows : (batch_size n i s : ℕ) (m : State) (before : List ℕ) (target : After) → Setting batch_size n i s Plain m
    → (b : ℕ) (bs : List ℕ) → m.pending i ≡ b ∷ bs → NoneLeft i m → nat_lt (length_word m s) batch_size ≡ true
    → Plainly batch_size n i s m before target → Plainly batch_size n i s (Moves.appended m i b bs (m.open_batch s)) before target
appends_follows batch_size n i s m before target st b bs e none short h =
    let r = plainly_retires batch_size n i s m before target (b ∷ bs) none e h in
    retires_plainly batch_size n i s _ before target bs (appended_none m i b (m.open_batch s) bs none) (appended_pending m i b (m.open_batch s) bs)
    (appended_short batch_size n i s b bs m before target st short r r.bound refl)

-- or it is to be tried
appended_tries : (batch_size n i s b : ℕ) (bs : List ℕ) (m : State) (before : List ℕ) (target : After) → Setting batch_size n i s Plain m → m.pending i ≡ b ∷ bs → NoneLeft i m
    → nat_lt (length_word m s) batch_size ≡ false → NotScanned (m.open_batch s) m
    → (h : Retires batch_size n i s m before target (b ∷ bs)) → (k : ℕ) → h.bound ≡ k → Tries batch_size n i s (Moves.appended m i b bs (m.open_batch s)) before target
appended_tries batch_size n i s b bs m before target st p none long fresh h zero e = let l = h.enough in absurd (omega (arith, l, e))
appended_tries batch_size n i s b bs m before target st p none long fresh h (suc k) e =
    let m2 = Moves.appended m i b bs (m.open_batch s) in
    let sets = h.sets in
    let v = with_open sets s (sets.open_batch s ++ b ∷ []) in
    let base = subst (λ (z : ℕ). Base batch_size n i s m before target h.order sets (retired_all batch_size z s (b ∷ bs) sets) []) e h.base in
    let enough = subst (λ (z : ℕ). rounds (sets.open_batch s) (b ∷ bs) sets.further ≤ z) e h.enough in
    let full = appended_full batch_size n i s b false m h.order _ h.base.working.models st long in
    let same = appended_pending m i b (m.open_batch s) bs in
    let opened = set_opened sets s (sets.open_batch s ++ b ∷ []) in
    let once = subst (λ (l : List ℕ). Once (sets.open_batch s) l sets.further) p (once_shown n i s m h.order _ st.slot_lt st.inv h.base.working.models) in
    let bounds : TryBounds (suc k) k s bs v = record {
      enough = subst (λ (o : List ℕ). rounds o bs sets.further ≤ suc k) (sym opened) (rounds_appended (sets.open_batch s) bs sets.further b (suc k) enough);
      back = subst (λ (o : List ℕ). rounds [] (further_of_all o sets.further ++ bs) (kept o sets.further) ≤ k) (sym opened)
          (rounds_given (sets.open_batch s) bs sets.further b k (once_appended (sets.open_batch s) bs b sets.further once) enough);
    } in
    let rest = ap (λ (f : Bool). tried f (is_enough s v) (length v.active == 0) (retired_all batch_size (suc k) s bs v) (rest_given batch_size k s (v.open_batch s) [] bs (with_open v s [])) (retired_all batch_size (suc k) s bs (closing s v))) full in
    let back = ap (λ (l : List ℕ). rest_tried batch_size (suc k) k s l v) (sym same) in
    record {
      order = h.order;
      sets = v;
      bound = suc k;
      bound_back = k;
      base = rest_on batch_size n i s m2 before target h.order v _ _ [] back
          (rest_on batch_size n i s m2 before target h.order v _ _ [] rest (appended_base batch_size k n i s b bs m before target h.order sets st base));
      bounds = subst (λ (l : List ℕ). TryBounds (suc k) k s l v) (sym same) bounds;
      none_left = appended_none m i b (m.open_batch s) bs none;
      marks = begins_marking (m.open_batch s) m2 (st.inv.debts.scanned (m.open_batch s)) fresh.seen;
    }

pub fills_follows : (batch_size n i s : ℕ) (m : State) (before : List ℕ) (target : After) → Setting batch_size n i s Plain m
    → (b : ℕ) (bs : List ℕ) → m.pending i ≡ b ∷ bs → NoneLeft i m → nat_lt (length_word m s) batch_size ≡ false → NotScanned (m.open_batch s) m
    → Plainly batch_size n i s m before target → Tries batch_size n i s (Moves.appended m i b bs (m.open_batch s)) before target
fills_follows batch_size n i s m before target st b bs e none long fresh h =
    let r = plainly_retires batch_size n i s m before target (b ∷ bs) none e h in
    appended_tries batch_size n i s b bs m before target st e none long fresh r r.bound refl
