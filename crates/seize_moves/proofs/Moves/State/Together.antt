-- The rule at the start, moves one after another, and what a row may rely on within a section.
use Rattle.std.proofs.Common.{◌≡◌, ℕ, ◌+◌, Bool, true, false, eqb, [], refl, arith, ◌∙◌, eqb-true}
use Rattle.std.proofs.lemmas.Bool.{eqb-false}
use Rattle.seize_moves.proofs.Moves.State.Ghost.{State, Stage, Unused, Open, Closing, Closed, Dead, IsDoomed, Marked, was_put, start, list_of}
use Rattle.seize_moves.proofs.Moves.State.Rule.{Inv, IsOf, SameRow, SameBatch, SameSlot, row_of, batch_of, slot_of, same_row, same_batch, same_slot, Grows, Keeps, Moved, Pending}
use Rattle.seize_moves.proofs.Moves.State.Grown.{grows_then}
use Rattle.seize_moves.proofs.Moves.State.Sums.{total_none}
use Rattle.seize.proofs.Given.General.{at_most_itself as not_longer}

pub rule_start : (n : ℕ) → Inv n (start n)
rule_start n = record {
  debts = record { listed = λ x t. refl; loosed = λ x t i. grind arith; marked = λ x t. refl; scanned = λ x t. omega arith; seen_le = λ x. omega arith };
  batches = record {
    fresh = λ x k. grind arith;
    blank = λ x k. refl;
    tally = λ x. grind (arith, total_none was_put n refl);
    mine = λ s k. grind arith;
    sole = λ s x k. grind arith;
    below = λ s x k. grind arith;
    shut = λ i x k. grind arith;
    rested = λ s k e. (refl, refl);
  };
  places = record {
    boxed = λ x c. grind arith;
    to_take = λ i c. refl;
    to_retire = λ i c. omega arith;
    all_deferred = λ t c. refl;
    housed = λ c x k. grind arith;
    carries = λ c t k. grind arith;
  };
  logged = record {
    guarded = λ t c k. grind arith;
    opens = λ t k. grind arith;
    inside = λ i s k. grind arith;
    reaches = λ c. refl;
    given = λ c. refl;
    used = λ c. refl;
    on_way = λ c i s t k. grind arith;
    sound = tt;
  };
  slots = record { outside = λ t k. refl; prefix = λ s t k e. refl };
}

pub pending_start : (n : ℕ) → Pending (start n).stage (start n).counter
pending_start n x k = grind arith

-- nothing changes
pub stays : (n i s : ℕ) (m : State) → Inv n m → Moved n i s m m
stays n i s m inv = record {
  inv = inv;
  keeps = record {
    rows = λ j e. same_row (row_of m j);
    slots = λ t e. same_slot (slot_of m t);
    holding = λ j t e f. (refl, refl);
    batches = λ j x e f. same_batch (batch_of n m x);
    lives = λ j c e f. (refl, refl);
    lists = λ j c e f. refl;
    taken_slots = λ t e. e;
    marked = λ j x t ne closing d. (d, ([], refl));
    lengths = λ t l. not_longer _;
  };
}

row_then : (n i s j : ℕ) (m m2 m3 : State) → Keeps n i s m m2 → Keeps n i s m2 m3 → (j ≡ i → ⊥) → SameRow (row_of m j) (row_of m3 j)
row_then n i s j m m2 m3 a b ne = let p = a.rows j ne in let q = b.rows j ne in record {
  loose = cc (p.loose, q.loose);
  from = cc (p.from, q.from);
  left = cc (p.left, q.left);
  pending = cc (p.pending, q.pending);
  puts = cc (p.puts, q.puts);
  closing = cc (p.closing, q.closing);
  section = cc (p.section, q.section);
  defers = cc (p.defers, q.defers);
}

slot_then : (n i s t : ℕ) (m m2 m3 : State) → Keeps n i s m m2 → Keeps n i s m2 m3 → (t ≡ s → ⊥) → SameSlot (slot_of m t) (slot_of m3 t)
slot_then n i s t m m2 m3 a b ne = let p = a.slots t ne in let q = b.slots t ne in record {
  head = cc (p.head, q.head);
  holder = cc (p.holder, q.holder);
  open_batch = cc (p.open_batch, q.open_batch);
}

-- what the row alone changes is so after a move of another
pub still_of : (n i s j x : ℕ) (m m2 : State) → Keeps n i s m m2 → (j ≡ i → ⊥) → IsOf j m.holder (m.stage x) ≡ true → IsOf j m2.holder (m2.stage x) ≡ true
still_of n i s j x m m2 a ne h = rw ((a.batches j x ne h).stage) (one (m.stage x) h)
  where
    one : (st : Stage) → IsOf j m.holder st ≡ true → IsOf j m2.holder st ≡ true
    one (Open u) k = let e : m.holder u ≡ j + 1 = eqb-true (m.holder u) (j + 1) k in cc (k, (a.holding j u ne e).0)
    one (Closing l) k = k
    one Unused k = absurd (cc k)
    one Closed k = absurd (cc k)
    one Dead k = absurd (cc k)

batch_then : (n i s j x : ℕ) (m m2 m3 : State) → Keeps n i s m m2 → Keeps n i s m2 m3 → (j ≡ i → ⊥) → IsOf j m.holder (m.stage x) ≡ true
    → SameBatch (batch_of n m x) (batch_of n m3 x)
batch_then n i s j x m m2 m3 a b ne h = let p = a.batches j x ne h in let q = b.batches j x ne (still_of n i s j x m m2 a ne h) in record {
  stage = cc (p.stage, q.stage);
  blocks = cc (p.blocks, q.blocks);
  seen = cc (p.seen, q.seen);
  todo = cc (p.todo, q.todo);
  done = cc (p.done, q.done);
}

-- one move after another; the first leaves the row in its section
pub then : (n i s : ℕ) (m m2 m3 : State) → Moved n i s m m2 → Moved n i s m2 m3 → m2.section i ≡ m.section i → Moved n i s m m3
then n i s m m2 m3 a b k = record {
  inv = b.inv;
  keeps = record {
    rows = λ j e. row_then n i s j m m2 m3 a.keeps b.keeps e;
    slots = λ t e. slot_then n i s t m m2 m3 a.keeps b.keeps e;
    holding = λ j t e f. let p = a.keeps.holding j t e f in let q = b.keeps.holding j t e (cc (p.0, f)) in (cc (p.0, q.0), cc (p.1, q.1));
    batches = λ j x e f. batch_then n i s j x m m2 m3 a.keeps b.keeps e f;
    lives = λ j c e f. let p = a.keeps.lives j c e f in let q = b.keeps.lives j c e (rw (p.0) f) in (cc (p.0, q.0), cc (p.1, q.1));
    lists = λ j c e f. let p = a.keeps.lists j c e f in cc (p, b.keeps.lists j c e (doomed_still j c e f));
    taken_slots = λ t e. b.keeps.taken_slots t (a.keeps.taken_slots t e);
    marked = marked_still;
    lengths = λ t l. let p = a.keeps.lengths t l in let q = b.keeps.lengths t l in omega (arith, p, q);
  };
}
  where
    doomed_still : (j c : ℕ) → (j ≡ i → ⊥) → m.life c ≡ IsDoomed j → m2.life c ≡ IsDoomed j
    doomed_still j c e f = cc ((a.keeps.lives j c e (grind (arith, f))).0, f)

    marked_still : (j x t : ℕ) → (j ≡ i → ⊥) → m.stage x ≡ Closing j → m3.debt x t ≡ Marked → (m.debt x t ≡ Marked) × Grows (list_of (m.head t)) (list_of (m3.head t))
    marked_still j x t ne closing d =
        let p = a.keeps.batches j x ne (rw closing (grind arith)) in
        let q = b.keeps.marked j x t ne (p.stage ∙ closing) d in
        let r = a.keeps.marked j x t ne closing q.0 in
        (r.0, grows_then (list_of (m.head t)) (list_of (m2.head t)) (list_of (m3.head t)) r.1 q.1)

    section_still : (j t : ℕ) → m.section j ≡ t + 1 → m2.section j ≡ t + 1
    section_still j t e = at (eqb j i) (eqb-true j i) (eqb-false j i)
      where
        at : (y : Bool) → (y ≡ true → j ≡ i) → (y ≡ false → j ≡ i → ⊥) → m2.section j ≡ t + 1
        at true p q = cc (p refl, k, e)
        at false p q = cc ((a.keeps.rows j (q refl)).section, e)

-- within a section
