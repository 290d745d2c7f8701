-- The moves of an open batch and its tries: each keeps the rule, and leaves to the other rows what they know.
use Rattle.std.proofs.Common.{◌≡◌, ℕ, ◌+◌, ◌<◌, ◌≤◌, Bool, true, false, cond, eqb, List, [], ◌∷◌, ◌++◌, length, refl, arith, eqb-true, subst, sym, ap}
use Rattle.std.proofs.lemmas.Bool.{eqb-false}
use Rattle.seize.specs.Law.{Effect}
use Rattle.seize_moves.specs.Waiting.Held.{count}
use Rattle.seize_moves.proofs.Waiting.Counts.{count-append}
use Rattle.seize_moves.proofs.Moves.State.Ghost.{put, Entry, Head, Debt, Unscanned, Stage, Unused, Open, Closing, Closed, Dead, Life, IsPending, State, is_active, is_never, is_loose, counts, was_put, total, is_in}
use Rattle.seize_moves.proofs.Moves.State.Rule.{Housed, IsLive, Boxed, SameUnlessDead, AllLoose, SeenIs, Scanned, AtStage, Tally, Guarded, Opens, Inv, Moved, same_row, row_of, same_slot, slot_of, open_length, retirals}
use Rattle.seize_moves.proofs.Moves.State.Logs.{held_open}
use Rattle.seize_moves.proofs.Moves.State.Sums.{total-put, total_zero, total_none, total_same, put_parts}
use Rattle.seize_moves.proofs.Moves.State.Grown.{other_marked}
use Rattle.seize_moves.proofs.Moves.State.Moves.{passed, passed_all}
use Rattle.seize_moves.proofs.Moves.State.Moves
use Rattle.seize.proofs.Given.General.{length_and_one as last_length, at_most_itself as not_longer}

-- the next slot to be scanned isn't scanned
pub unscanned : (seen : ℕ → ℕ) (debt : ℕ → ℕ → Debt) (x t : ℕ) → Scanned seen debt → seen x ≡ t → debt x t ≡ Unscanned
unscanned seen debt x t h e = grind (arith, h x t)

-- a change of one debt that f doesn't tell apart
pub put_alike : (f : Debt → ℕ) (debt : ℕ → ℕ → Debt) (x t : ℕ) (v : Debt) (c u : ℕ) → f v ≡ f (debt x t) → f (put debt x (put (debt x) t v) c u) ≡ f (debt c u)
put_alike f debt x t v c u e = grind arith

pub loose_put : (loose : ℕ → List Entry) (from : ℕ → ℕ) (debt : ℕ → ℕ → Debt) (x t : ℕ) (v : Debt)
    → AllLoose loose from debt → ((j : ℕ) → is_loose j v ≡ is_loose j (debt x t)) → AllLoose loose from (put debt x (put (debt x) t v))
loose_put loose from debt x t v a k c u j = cc (a c u j, put_alike (is_loose j) debt x t v c u (k j))

scan_put : (seen : ℕ → ℕ) (debt : ℕ → ℕ → Debt) (x t : ℕ) (v : Debt)
    → Scanned seen debt → seen x ≡ t → SeenIs v t (t + 1) → Scanned (put seen x (t + 1)) (put debt x (put (debt x) t v))
scan_put seen debt x t v h e k c u = at (eqb c x)
  where
    later : (d : Debt) (u t : ℕ) → (u ≡ t → ⊥) → SeenIs d u t → SeenIs d u (t + 1)
    later d u t ne h = grind arith

    there : (z : Bool) → (z ≡ true → u ≡ t) → (z ≡ false → u ≡ t → ⊥) → SeenIs (cond z v (debt x u)) u (t + 1)
    there true r w = subst (λ (a : ℕ). SeenIs v a (t + 1)) (sym (r refl)) k
    there false r w = later (debt x u) u t (w refl) (rw e at (h x u))

    at : (y : Bool) → SeenIs (cond y (put (debt x) t v) (debt c) u) u (cond y (t + 1) (seen c))
    at true = there (eqb u t) (eqb-true u t) (eqb-false u t)
    at false = h c u

-- the scan of the batch passes slot t
pub skipped_moves : (n i s : ℕ) (m : State) (x t : ℕ)
    → Inv n m → m.stage x ≡ Open s → m.holder s ≡ i + 1 → m.seen x ≡ t → t < n → is_active (m.head t) ≡ false → Moved n i s m (Moves.skipped m x t)
skipped_moves n i s m x t inv hs hh hx l h = record {
  inv = record {
    debts = record {
      listed = λ c u. grind (arith, inv.debts.listed c u, inv.debts.scanned x t);
      loosed = loose_put m.loose m.from m.debt x t _ inv.debts.loosed (λ j. grind (arith, unscanned m.seen m.debt x t inv.debts.scanned hx));
      marked = λ c u. grind (arith, inv.debts.marked c u, inv.debts.scanned x t);
      scanned = scan_put m.seen m.debt x t _ inv.debts.scanned hx (omega arith);
      seen_le = λ c. grind (arith, inv.debts.seen_le c);
    };
    batches = record {
      fresh = inv.batches.fresh;
      blank = inv.batches.blank;
      tally = λ c. grind (arith, inv.batches.tally c, inv.debts.scanned x t, total-put);
      mine = inv.batches.mine;
      sole = inv.batches.sole;
      below = inv.batches.below;
      shut = inv.batches.shut;
      rested = λ u l e. grind (arith, inv.batches.rested u l, inv.batches.mine u l);
    };
    places = inv.places;
    logged = record {
      guarded = λ u c e. grind (arith, inv.logged.guarded u c e, held_open u c m.log e, inv.logged.opens u);
      opens = inv.logged.opens;
      inside = inv.logged.inside;
      reaches = inv.logged.reaches;
      given = inv.logged.given;
      used = inv.logged.used;
      on_way = inv.logged.on_way;
      sound = inv.logged.sound;
    };
    slots = inv.slots;
  };
  keeps = record {
    rows = λ j e. same_row (row_of m j);
    slots = λ t e. same_slot (slot_of m t);
    holding = λ j t e f. (refl, refl);
    batches = λ j y e f. record { stage = refl; blocks = refl; seen = grind arith; todo = refl; done = grind arith };
    lives = λ j c e f. (refl, refl);
    lists = λ j c e f. refl;
    taken_slots = λ t e. e;
    marked = λ j y u ne closing d. (other_marked m.stage m.debt _ j y x u closing (λ e. grind (arith, hs, e)) d, ([], refl));
    lengths = λ t l. not_longer _;
  };
}

-- and marks it
pub marked_moves : (n i s : ℕ) (m : State) (x t : ℕ)
    → Inv n m → m.stage x ≡ Open s → m.holder s ≡ i + 1 → m.seen x ≡ t → t < n → Moved n i s m (Moves.marked m x t)
marked_moves n i s m x t inv hs hh hx l = record {
  inv = record {
    debts = record {
      listed = λ c u. grind (arith, inv.debts.listed c u, inv.debts.scanned x t);
      loosed = loose_put m.loose m.from m.debt x t _ inv.debts.loosed (λ j. grind (arith, unscanned m.seen m.debt x t inv.debts.scanned hx));
      marked = λ c u. grind (arith, inv.debts.marked c u, inv.debts.scanned x t, count-append u (m.todo x) (t ∷ []));
      scanned = scan_put m.seen m.debt x t _ inv.debts.scanned hx (omega arith);
      seen_le = λ c. grind (arith, inv.debts.seen_le c);
    };
    batches = record {
      fresh = inv.batches.fresh;
      blank = inv.batches.blank;
      tally = λ c. grind (arith, inv.batches.tally c, inv.debts.scanned x t, total-put);
      mine = inv.batches.mine;
      sole = inv.batches.sole;
      below = inv.batches.below;
      shut = inv.batches.shut;
      rested = λ u l e. grind (arith, inv.batches.rested u l, inv.batches.mine u l);
    };
    places = inv.places;
    logged = record {
      guarded = λ u c e. grind (arith, inv.logged.guarded u c e);
      opens = inv.logged.opens;
      inside = inv.logged.inside;
      reaches = inv.logged.reaches;
      given = inv.logged.given;
      used = inv.logged.used;
      on_way = inv.logged.on_way;
      sound = inv.logged.sound;
    };
    slots = inv.slots;
  };
  keeps = record {
    rows = λ j e. same_row (row_of m j);
    slots = λ t e. same_slot (slot_of m t);
    holding = λ j t e f. (refl, refl);
    batches = λ j y e f. record { stage = refl; blocks = refl; seen = grind arith; todo = grind arith; done = grind arith };
    lives = λ j c e f. (refl, refl);
    lists = λ j c e f. refl;
    taken_slots = λ t e. e;
    marked = λ j y u ne closing d. (other_marked m.stage m.debt _ j y x u closing (λ e. grind (arith, hs, e)) d, ([], refl));
    lengths = λ t l. not_longer _;
  };
}

-- no slot owes an open batch
unput : (n s : ℕ) (m : State) (x t : ℕ) → Inv n m → m.stage x ≡ Open s → was_put (m.debt x t) ≡ 0
unput n s m x t inv hs = grind (arith, inv.batches.tally x, inv.debts.scanned x t, inv.debts.seen_le x, total_zero was_put (m.debt x) n t)

-- the try is given up
pub given_up_moves : (n i s : ℕ) (m : State) (x : ℕ) → Inv n m → m.stage x ≡ Open s → m.holder s ≡ i + 1 → Moved n i s m (Moves.given_up m x)
given_up_moves n i s m x inv hs hh = record {
  inv = record {
    debts = record {
      listed = λ c u. grind (arith, inv.debts.listed c u, unput n s m x u inv hs);
      loosed = λ c u j. grind (arith, inv.debts.loosed c u j, unput n s m x u inv hs);
      marked = λ c u. grind (arith, inv.debts.marked c u);
      scanned = λ c u. grind (arith, inv.debts.scanned c u);
      seen_le = λ c. grind (arith, inv.debts.seen_le c);
    };
    batches = record {
      fresh = inv.batches.fresh;
      blank = inv.batches.blank;
      tally = λ c. grind (arith, inv.batches.tally c, total_none was_put n refl);
      mine = inv.batches.mine;
      sole = inv.batches.sole;
      below = inv.batches.below;
      shut = inv.batches.shut;
      rested = λ u l e. grind (arith, inv.batches.rested u l, inv.batches.mine u l);
    };
    places = inv.places;
    logged = record {
      guarded = λ u c e. grind (arith, inv.logged.guarded u c e);
      opens = inv.logged.opens;
      inside = inv.logged.inside;
      reaches = inv.logged.reaches;
      given = inv.logged.given;
      used = inv.logged.used;
      on_way = inv.logged.on_way;
      sound = inv.logged.sound;
    };
    slots = inv.slots;
  };
  keeps = record {
    rows = λ j e. same_row (row_of m j);
    slots = λ t e. same_slot (slot_of m t);
    holding = λ j t e f. (refl, refl);
    batches = λ j y e f. record { stage = refl; blocks = refl; seen = grind arith; todo = grind arith; done = grind arith };
    lives = λ j c e f. (refl, refl);
    lists = λ j c e f. refl;
    taken_slots = λ t e. e;
    marked = λ j y u ne closing d. (other_marked m.stage m.debt _ j y x u closing (λ e. grind (arith, hs, e)) d, ([], refl));
    lengths = λ t l. not_longer _;
  };
}

-- where the first slot that wasn't scanned was never taken, no later one is active
pub none_behind : (n : ℕ) (m : State) (s t : ℕ) → Inv n m → is_never (m.head s) ≡ true → s ≤ t → is_active (m.head t) ≡ false
none_behind n m s t inv h l = grind (arith, inv.slots.prefix s t)

-- what a batch's debts count stays, when the rest is passed
pub passed_total : (f : Debt → ℕ) (n : ℕ) (d : ℕ → Debt) → ((x : Debt) → f (passed x) ≡ f x) → total f (passed_all n d) n ≡ total f d n
passed_total f n d h = total_same f d (passed_all n d) n (λ t. grind (arith, h (d t)))

pub passed_put : (x : Debt) → was_put (passed x) ≡ was_put x
passed_put x = grind arith

passed_counts : (x : Debt) → counts (passed x) ≡ counts x
passed_counts x = grind arith

pub passed_loose : (n : ℕ) (loose : ℕ → List Entry) (from : ℕ → ℕ) (debt : ℕ → ℕ → Debt) (x : ℕ)
    → AllLoose loose from debt → AllLoose loose from (put debt x (passed_all n (debt x)))
passed_loose n loose from debt x h c u j = grind (arith, h c u j, one (debt x u) j)
  where
    one : (d : Debt) (j : ℕ) → is_loose j (passed d) ≡ is_loose j d
    one d j = grind arith

passed_tally : (n i s next : ℕ) (stage : ℕ → Stage) (counter : ℕ → ℕ) (debt : ℕ → ℕ → Debt) (seen : ℕ → ℕ) (todo : ℕ → List ℕ) (x : ℕ)
    → Tally n stage counter debt seen todo → stage x ≡ Open s → stage next ≡ Unused
    → Tally n (put (put stage x (Closing i)) next (Open s)) counter (put debt x (passed_all n (debt x))) (put seen x n) todo
passed_tally n i s next stage counter debt seen todo x h hs hn c = at (eqb c next) (eqb-true c next) (eqb c x) (eqb-true c x)
  where
    at : (y : Bool) → (y ≡ true → c ≡ next) → (z : Bool) → (z ≡ true → c ≡ x)
        → AtStage n (cond y (Open s) (cond z (Closing i) (stage c))) (counter c) (cond z (passed_all n (debt x)) (debt c)) (cond z n (seen c)) (todo c)
    at true p true r = absurd (cc (p refl, r refl, hs, hn))
    at true p false r = grind (arith, p refl, h next)
    at false p true r = grind (arith, r refl, h x, put_parts (debt x) n, passed_total counts n (debt x) passed_counts)
    at false p false r = h c

-- outside reclaimed batches a list has just the blocks that are in it
pub same_box : (st : Stage) (a b : ℕ) → (st ≡ Dead → ⊥) → SameUnlessDead st a b → a ≡ b
same_box Unused a b ne h = h
same_box (Open s) a b ne h = h
same_box (Closing i) a b ne h = h
same_box Closed a b ne h = h
same_box Dead a b ne h = absurd (ne refl)

closed_boxed : (i s next : ℕ) (stage : ℕ → Stage) (blocks : ℕ → List ℕ) (life : ℕ → Life) (x : ℕ)
    → Boxed stage blocks life → stage x ≡ Open s → stage next ≡ Unused → Boxed (put (put stage x (Closing i)) next (Open s)) blocks life
closed_boxed i s next stage blocks life x h hs hn c b = at (eqb c next) (eqb-true c next) (eqb c x) (eqb-true c x)
  where
    at : (y : Bool) → (y ≡ true → c ≡ next) → (z : Bool) → (z ≡ true → c ≡ x)
        → SameUnlessDead (cond y (Open s) (cond z (Closing i) (stage c))) (count b (blocks c)) (is_in c (life b))
    at true p z r = same_box (stage c) _ _ (λ d. cc (p refl, hn, d)) (h c b)
    at false p true r = same_box (stage c) _ _ (λ d. cc (r refl, hs, d)) (h c b)
    at false p false r = h c b

closed_housed : (i s next : ℕ) (stage : ℕ → Stage) (life : ℕ → Life) (x : ℕ)
    → Housed life stage → stage x ≡ Open s → stage next ≡ Unused → Housed life (put (put stage x (Closing i)) next (Open s))
closed_housed i s next stage life x h hs hn b c e = at (eqb c next) (eqb c x)
  where
    at : (y z : Bool) → IsLive (cond y (Open s) (cond z (Closing i) (stage c))) ≡ true
    at true z = refl
    at false true = refl
    at false false = h b c e

closed_sole : (i s next : ℕ) (stage : ℕ → Stage) (open_batch : ℕ → ℕ) (x : ℕ)
    → ((u c : ℕ) → stage c ≡ Open u → open_batch u ≡ c) → stage x ≡ Open s
    → (u c : ℕ) → put (put stage x (Closing i)) next (Open s) c ≡ Open u → put open_batch s next u ≡ c
closed_sole i s next stage open_batch x h hs u c = at (eqb c next) (eqb-true c next) (eqb c x) (eqb-false c x)
  where
    at : (y : Bool) → (y ≡ true → c ≡ next) → (z : Bool) → (z ≡ false → c ≡ x → ⊥)
        → cond y (Open s) (cond z (Closing i) (stage c)) ≡ Open u → put open_batch s next u ≡ c
    at true p z r e = grind (arith, p refl, e)
    at false p true r e = absurd (grind (arith, e))
    at false p false r e = grind (arith, h u c e, h s x hs, r refl)

pub passed_scanned : (n : ℕ) (seen : ℕ → ℕ) (debt : ℕ → ℕ → Debt) (x : ℕ)
    → Scanned seen debt → seen x ≤ n → Scanned (put seen x n) (put debt x (passed_all n (debt x)))
passed_scanned n seen debt x h l c u = grind (arith, h c u)

pub passed_guarded : (n : ℕ) (log : List Effect) (life : ℕ → Life) (head : ℕ → Head) (seen : ℕ → ℕ) (debt : ℕ → ℕ → Debt) (x : ℕ)
    → Guarded log life debt → Opens log head → Scanned seen debt → ((t : ℕ) → seen x ≤ t → t < n → is_active (head t) ≡ false)
    → Guarded log life (put debt x (passed_all n (debt x)))
passed_guarded n log life head seen debt x g o h none u c e = grind (arith, g u c e, held_open u c log e, o u, h x u, none u)

-- the batch that is opened is empty
closed_length : (n s t : ℕ) (m : State) → Inv n m → length (m.blocks (put m.open_batch s m.next t)) ≤ open_length m t
closed_length n s t m inv = at (eqb t s)
  where
    none : m.blocks m.next ≡ []
    none = inv.batches.blank m.next (inv.batches.fresh m.next (omega arith))

    at : (b : Bool) → length (m.blocks (cond b m.next (m.open_batch t))) ≤ open_length m t
    at true = rw none (omega arith)
    at false = not_longer _

-- row i closes the batch and opens the next; the slots that weren't scanned aren't active
pub closed_moves : (n i s : ℕ) (m : State) (x : ℕ)
    → Inv n m → m.stage x ≡ Open s → m.holder s ≡ i + 1 → m.closing i ≡ 0 → ((t : ℕ) → m.seen x ≤ t → t < n → is_active (m.head t) ≡ false)
    → Moved n i s m (Moves.closed n m i s x)
closed_moves n i s m x inv hs hh none rest = record {
  inv = record {
    debts = record {
      listed = λ c u. grind (arith, inv.debts.listed c u);
      loosed = passed_loose n m.loose m.from m.debt x inv.debts.loosed;
      marked = λ c u. grind (arith, inv.debts.marked c u);
      scanned = passed_scanned n m.seen m.debt x inv.debts.scanned (inv.debts.seen_le x);
      seen_le = λ c. grind (arith, inv.debts.seen_le c);
    };
    batches = record {
      fresh = λ c e. grind (arith, inv.batches.fresh c, inv.batches.fresh x);
      blank = λ c e. grind (arith, inv.batches.blank c);
      tally = passed_tally n i s m.next m.stage m.counter m.debt m.seen m.todo x inv.batches.tally hs (inv.batches.fresh m.next (omega arith));
      mine = λ u l. grind (arith, inv.batches.mine u l, inv.batches.fresh m.next);
      sole = closed_sole i s m.next m.stage m.open_batch x inv.batches.sole hs;
      below = λ u c e. grind (arith, inv.batches.below u c, inv.batches.below s x);
      shut = λ j c e. grind (arith, inv.batches.shut j c, inv.batches.fresh m.next, none);
      rested = λ u l e. grind (arith, inv.batches.rested u l, inv.batches.mine u l);
    };
    places = record {
      boxed = closed_boxed i s m.next m.stage m.blocks m.life x inv.places.boxed hs (inv.batches.fresh m.next (omega arith));
      to_take = inv.places.to_take;
      to_retire = inv.places.to_retire;
      all_deferred = inv.places.all_deferred;
      housed = closed_housed i s m.next m.stage m.life x inv.places.housed hs (inv.batches.fresh m.next (omega arith));
      carries = inv.places.carries;
    };
    logged = record {
      guarded = passed_guarded n m.log m.life m.head m.seen m.debt x inv.logged.guarded inv.logged.opens inv.debts.scanned rest;
      opens = inv.logged.opens;
      inside = inv.logged.inside;
      reaches = inv.logged.reaches;
      given = inv.logged.given;
      used = inv.logged.used;
      on_way = inv.logged.on_way;
      sound = inv.logged.sound;
    };
    slots = inv.slots;
  };
  keeps = record {
    rows = λ j e. record { loose = refl; from = refl; left = refl; pending = refl; puts = refl; closing = grind arith; section = refl; defers = refl };
    slots = λ t e. record { head = refl; holder = refl; open_batch = grind arith };
    holding = λ j t e f. grind arith;
    batches = λ j y e f. record { stage = grind (arith, inv.batches.fresh m.next); blocks = refl; seen = grind arith; todo = refl; done = grind arith };
    lives = λ j c e f. (refl, refl);
    lists = λ j c e f. refl;
    taken_slots = λ t e. e;
    marked = λ j y u ne closing d. (other_marked m.stage m.debt _ j y x u closing (λ e. grind (arith, hs, e)) d, ([], refl));
    lengths = λ t l. let p = closed_length n s t m inv in omega (arith, p);
  };
}

-- the first of what is to be retired
pub first_pending : (n i : ℕ) (m : State) (b : ℕ) (bs : List ℕ) → Inv n m → m.pending i ≡ b ∷ bs → m.life b ≡ IsPending i
first_pending n i m b bs inv h = grind (arith, inv.places.to_retire i b)

-- no other slot has the batch open
appended_length : (n s t : ℕ) (m : State) (b x : ℕ) → m.stage x ≡ Open s → t < n → Inv n m
    → length (put m.blocks x (m.blocks x ++ b ∷ []) (m.open_batch t)) + cond (eqb t s) (retirals m.log) 0 ≤ open_length m t + cond (eqb t s) (retirals m.log + 1) 0
appended_length n s t m b x hs l inv = at (eqb (m.open_batch t) x) (eqb t s) (eqb-true (m.open_batch t) x) (eqb-false t s)
  where
    at : (p q : Bool) → (p ≡ true → m.open_batch t ≡ x) → (q ≡ false → t ≡ s → ⊥)
        → length (cond p (m.blocks x ++ b ∷ []) (m.blocks (m.open_batch t))) + cond q (retirals m.log) 0 ≤ open_length m t + cond q (retirals m.log + 1) 0
    at false true e f = omega arith
    at false false e f = omega arith
    at true true e f = let k = last_length (m.blocks x) b in let h : open_length m t ≡ length (m.blocks x) = ap (λ (y : ℕ). length (m.blocks y)) (e refl) in omega (arith, k, h)
    at true false e f = absurd (f refl (let k = inv.batches.mine t l in let o = e refl in grind (arith, hs)))

-- it goes into the batch
pub appended_moves : (n i s : ℕ) (m : State) (b : ℕ) (bs : List ℕ) (x : ℕ)
    → Inv n m → m.stage x ≡ Open s → m.holder s ≡ i + 1 → m.seen x ≡ 0 → m.pending i ≡ b ∷ bs → m.life b ≡ IsPending i
    → Moved n i s m (Moves.appended m i b bs x)
appended_moves n i s m b bs x inv hs hh hx hp h = record {
  inv = record {
    debts = inv.debts;
    batches = record {
      fresh = inv.batches.fresh;
      blank = λ c e. grind (arith, inv.batches.blank c);
      tally = inv.batches.tally;
      mine = inv.batches.mine;
      sole = inv.batches.sole;
      below = inv.batches.below;
      shut = inv.batches.shut;
      rested = inv.batches.rested;
    };
    places = record {
      boxed = λ y c. grind (arith, inv.places.boxed y c, count-append c (m.blocks x) (b ∷ []));
      to_take = λ j c. grind (arith, inv.places.to_take j c);
      to_retire = λ j c. grind (arith, inv.places.to_retire j c);
      all_deferred = λ t c. grind (arith, inv.places.all_deferred t c);
      housed = λ c y e. grind (arith, inv.places.housed c y, hs, e);
      carries = λ c t e. grind (arith, inv.places.carries c t);
    };
    logged = record {
      guarded = λ u c e. grind (arith, inv.logged.guarded u c, e, inv.debts.scanned x u);
      opens = inv.logged.opens;
      inside = inv.logged.inside;
      reaches = λ c. grind (arith, inv.logged.reaches c);
      given = λ c. grind (arith, inv.logged.given c);
      used = λ c. grind (arith, inv.logged.used c);
      on_way = λ c j u v e. grind (arith, inv.logged.on_way c j u v);
      sound = (grind (arith, inv.logged.reaches b), grind (arith, inv.logged.given b), inv.logged.sound);
    };
    slots = inv.slots;
  };
  keeps = record {
    rows = λ j e. record { loose = refl; from = refl; left = refl; pending = grind arith; puts = refl; closing = refl; section = refl; defers = refl };
    slots = λ t e. same_slot (slot_of m t);
    holding = λ j t e f. (refl, refl);
    batches = λ j y e f. record { stage = refl; blocks = grind arith; seen = refl; todo = refl; done = refl };
    lives = λ j c e f. grind arith;
    lists = λ j c e f. refl;
    taken_slots = λ t e. e;
    marked = λ j x t ne closing d. (d, ([], refl));
    lengths = λ t l. appended_length n s t m b x hs l inv;
  };
}
