-- The moves of a batch that is closed: each keeps the rule, and leaves to the other rows what they know.
use Rattle.std.proofs.Common.{◌≡◌, ℕ, ◌+◌, ◌-◌, ◌%◌, ◌^◌, ◌<◌, ◌≤◌, Bool, true, false, cond, eqb, List, [], ◌∷◌, refl, arith, eqb-true, subst, sym, ap, ◌∙◌, inl, inr}
use Rattle.std.proofs.lemmas.Bool.{eqb-false}
use Rattle.seize.specs.Law.{Effect}
use Rattle.seize_moves.specs.Waiting.Held.{count, same}
use Rattle.seize_moves.proofs.Moves.State.Ghost.{put, Entry, Active, Debt, Unscanned, Marked, Gone, Skipped, Owing, Loose, Counted, Head, list_of, is_active, Stage, Unused, Open, Closing, Closed, Dead, Life, IsFree, IsOwned, IsLinked, IsUnlinked, IsDeferring, IsDeferred, IsPending, IsIn, IsDoomed, IsLeft, State, is_loose, on_list, is_marked, owes, counts, was_put, total, is_in, entries}
use Rattle.seize_moves.proofs.Moves.State.Rule.{Listed, AllLoose, AllMarked, Boxed, Housed, IsLive, SameUnlessDead, SeenIs, Scanned, AtStage, Tally, Guarded, IsGuarded, Waits, HasLeft, Inv, Moved, same_row, row_of, same_slot, slot_of}
use Rattle.seize_moves.proofs.Moves.State.Sums.{total-put, total_same, total_le, put_parts, put_le, put_both}
use Rattle.seize_moves.proofs.Moves.Moves.Tries.{put_alike, loose_put, same_box}
use Rattle.seize_moves.proofs.Moves.State.Logs.{held_open}
use Rattle.seize_moves.proofs.Moves.State.Grown.{one_grown, other_marked}
use Rattle.seize_moves.proofs.Moves.State.Moves
use Rattle.seize.proofs.Given.General.{at_most_itself as not_longer}

-- the first slot to do is marked, whether it has left since or not
pub first_marked : (todo : ℕ → List ℕ) (debt : ℕ → ℕ → Debt) (x t : ℕ) (rest : List ℕ)
    → AllMarked todo debt → todo x ≡ t ∷ rest → is_marked (debt x t) ≡ 1
first_marked todo debt x t rest h e = one (debt x t) (grind (arith, h x t))
  where
    one : (d : Debt) → 0 < is_marked d → is_marked d ≡ 1
    one Unscanned k = absurd (omega (arith, k))
    one Marked k = refl
    one Gone k = refl
    one Skipped k = absurd (omega (arith, k))
    one Owing k = absurd (omega (arith, k))
    one (Loose j) k = absurd (omega (arith, k))
    one Counted k = absurd (omega (arith, k))

-- so it is neither on a list nor counted
pub not_put : (d : Debt) → is_marked d ≡ 1 → (on_list d ≡ 0) × (counts d ≡ 0) × (was_put d ≡ 0) × ((i : ℕ) → is_loose i d ≡ 0)
not_put Unscanned e = absurd (omega (arith, e))
not_put Marked e = (refl, refl, refl, λ i. refl)
not_put Gone e = (refl, refl, refl, λ i. refl)
not_put Skipped e = absurd (omega (arith, e))
not_put Owing e = absurd (omega (arith, e))
not_put (Loose j) e = absurd (omega (arith, e))
not_put Counted e = absurd (omega (arith, e))

-- and the batch has scanned it
pub marked_seen : (d : Debt) (t k : ℕ) → is_marked d ≡ 1 → SeenIs d t k → t < k
marked_seen Unscanned t k e s = absurd (omega (arith, e))
marked_seen Marked t k e s = s
marked_seen Gone t k e s = s
marked_seen Skipped t k e s = s
marked_seen Owing t k e s = s
marked_seen (Loose j) t k e s = s
marked_seen Counted t k e s = s

rest_marked : (todo : ℕ → List ℕ) (debt : ℕ → ℕ → Debt) (x t : ℕ) (rest : List ℕ) (v : Debt)
    → AllMarked todo debt → todo x ≡ t ∷ rest → is_marked v ≡ 0 → AllMarked (put todo x rest) (put debt x (put (debt x) t v))
rest_marked todo debt x t rest v h e k y u = grind (arith, h y u, first_marked todo debt x t rest h e)

-- a debt that is as far as the one before
seen_put : (seen : ℕ → ℕ) (debt : ℕ → ℕ → Debt) (x t : ℕ) (v : Debt)
    → Scanned seen debt → SeenIs v t (seen x) → Scanned seen (put debt x (put (debt x) t v))
seen_put seen debt x t v h k y u = at (eqb y x) (eqb-true y x)
  where
    there : (z : Bool) → (z ≡ true → u ≡ t) → SeenIs (cond z v (debt x u)) u (seen x)
    there true r = subst (λ (a : ℕ). SeenIs v a (seen x)) (sym (r refl)) k
    there false r = h x u

    at : (b : Bool) → (b ≡ true → y ≡ x) → SeenIs (cond b (put (debt x) t v) (debt y) u) u (seen y)
    at true p = subst (λ (a : ℕ). SeenIs (put (debt x) t v u) u (seen a)) (sym (p refl)) (there (eqb u t) (eqb-true u t))
    at false p = h y u

-- a change of one debt that f doesn't tell apart
pub total_alike : (f : Debt → ℕ) (debt : ℕ → ℕ → Debt) (x t : ℕ) (v : Debt) (n y : ℕ)
    → f v ≡ f (debt x t) → total f (put debt x (put (debt x) t v) y) n ≡ total f (debt y) n
total_alike f debt x t v n y e = total_same f (debt y) (put debt x (put (debt x) t v) y) n (λ u. put_alike f debt x t v y u e)

-- a batch that is being closed counts on the debts counted alone
closing_tally : (n i : ℕ) (stage : ℕ → Stage) (counter : ℕ → ℕ) (debt : ℕ → ℕ → Debt) (seen : ℕ → ℕ) (todo : ℕ → List ℕ) (x t : ℕ) (v : Debt) (rest : List ℕ)
    → Tally n stage counter debt seen todo → stage x ≡ Closing i → counts v ≡ counts (debt x t)
    → Tally n stage counter (put debt x (put (debt x) t v)) seen (put todo x rest)
closing_tally n i stage counter debt seen todo x t v rest h hs e y = at (eqb y x) (eqb-true y x)
  where
    there : (st : Stage) (c k : ℕ) (d2 d : ℕ → Debt) (l l2 : List ℕ) → st ≡ Closing i → total counts d2 n ≡ total counts d n
        → AtStage n st c d k l → AtStage n st c d2 k l2
    there st c k d2 d l l2 e p a = grind arith

    at : (b : Bool) → (b ≡ true → y ≡ x)
        → AtStage n (stage y) (counter y) (cond b (put (debt x) t v) (debt y)) (seen y) (cond b rest (todo y))
    at true p = there (stage y) (counter y) (seen y) (put (debt x) t v) (debt y) (todo y) rest (cc (p refl, hs))
        (rw (p refl) (total_same counts (debt x) (put (debt x) t v) n (λ u. grind (arith, e)))) (h y)
    at false p = h y

-- the entry stands on the slot's list
pushed_listed : (head : ℕ → Head) (debt : ℕ → ℕ → Debt) (x t c : ℕ) (es : List Entry) → Listed head debt → head t ≡ Active es → on_list (debt x t) ≡ 0
    → Listed (put head t (Active (record { block = c; batch = x } ∷ es))) (put debt x (put (debt x) t Owing))
pushed_listed head debt x t c es listed is none y u = at (eqb u t) (eqb-true u t) refl
  where
    had : entries y es ≡ on_list (debt y t)
    had = sym (ap (λ (l : List Entry). entries y l) (ap list_of is)) ∙ listed y t

    there : (q : Bool) → eqb y x ≡ q → u ≡ t → eqb u t ≡ true → same y x + entries y es ≡ on_list (cond q (put (debt x) t Owing) (debt y) u)
    there true e same_slot here = let one = eqb-true y x e in let k = ap (λ (a : ℕ). on_list (debt a t)) one in grind (arith, e, here, had, k, none)
    there false e same_slot here = let k = ap (λ (a : ℕ). on_list (debt y a)) same_slot in grind (arith, e, had, k)

    elsewhere : (q : Bool) → eqb y x ≡ q → eqb u t ≡ false → entries y (list_of (head u)) ≡ on_list (cond q (put (debt x) t Owing) (debt y) u)
    elsewhere true e here = let k = ap (λ (a : ℕ). on_list (debt a u)) (eqb-true y x e) in grind (arith, here, listed y u, k)
    elsewhere false e here = listed y u

    at : (p : Bool) → (p ≡ true → u ≡ t) → eqb u t ≡ p → entries y (list_of (cond p (Active (record { block = c; batch = x } ∷ es)) (head u))) ≡ on_list (put debt x (put (debt x) t Owing) y u)
    at true same_slot here = there (eqb y x) refl (same_slot refl) here
    at false same_slot here = elsewhere (eqb y x) refl here

-- slot t is given an entry
pub pushed_moves : (n i s : ℕ) (m : State) (x t c : ℕ) (es : List Entry) (rest : List ℕ)
    → Inv n m → m.stage x ≡ Closing i → m.todo x ≡ t ∷ rest → m.head t ≡ Active es → Moved n i s m (Moves.pushed m x t c es rest)
pushed_moves n i s m x t c es rest inv hs ht h = record {
  inv = record {
    debts = record {
      listed = pushed_listed m.head m.debt x t c es inv.debts.listed h (not_put (m.debt x t) (first_marked m.todo m.debt x t rest inv.debts.marked ht)).0;
      loosed = loose_put m.loose m.from m.debt x t _ inv.debts.loosed (λ j. grind (arith, (not_put (m.debt x t) (first_marked m.todo m.debt x t rest inv.debts.marked ht)).3 j));
      marked = rest_marked m.todo m.debt x t rest _ inv.debts.marked ht refl;
      scanned = seen_put m.seen m.debt x t _ inv.debts.scanned (marked_seen (m.debt x t) t (m.seen x) (first_marked m.todo m.debt x t rest inv.debts.marked ht) (inv.debts.scanned x t));
      seen_le = inv.debts.seen_le;
    };
    batches = record {
      fresh = inv.batches.fresh;
      blank = inv.batches.blank;
      tally = closing_tally n i m.stage m.counter m.debt m.seen m.todo x t _ rest inv.batches.tally hs
          (grind (arith, (not_put (m.debt x t) (first_marked m.todo m.debt x t rest inv.debts.marked ht)).1));
      mine = inv.batches.mine;
      sole = inv.batches.sole;
      below = inv.batches.below;
      shut = inv.batches.shut;
      rested = λ u l e. grind (arith, inv.batches.rested u l, inv.batches.mine u l);
    };
    places = inv.places;
    logged = record {
      guarded = λ u b e. grind (arith, inv.logged.guarded u b e);
      opens = λ u e. grind (arith, inv.logged.opens u);
      inside = inv.logged.inside;
      reaches = inv.logged.reaches;
      given = inv.logged.given;
      used = inv.logged.used;
      on_way = inv.logged.on_way;
      sound = inv.logged.sound;
    };
    slots = record {
      outside = λ u e. grind (arith, inv.slots.outside u);
      prefix = λ u v e f. grind (arith, inv.slots.prefix u v);
    };
  };
  keeps = record {
    rows = λ j e. same_row (row_of m j);
    slots = λ u e. record { head = grind arith; holder = refl; open_batch = refl };
    holding = λ j t e f. (refl, refl);
    batches = λ j y e f. record { stage = refl; blocks = refl; seen = refl; todo = grind arith; done = grind arith };
    lives = λ j c e f. (refl, refl);
    lists = λ j c e f. refl;
    taken_slots = λ u e. grind arith;
    marked = λ j y u ne closing d. (other_marked m.stage m.debt _ j y x u closing (λ e. grind (arith, ne, hs, e)) d, one_grown m.head _ es t u h);
    lengths = λ t l. not_longer _;
  };
}

-- another debt of a batch that waits no longer for the slot
put_guarded : (debt : ℕ → ℕ → Debt) (x t u : ℕ) (v : Debt) (l : Life) → (Waits (debt x t) → u ≡ t → ⊥) → IsGuarded l debt u → IsGuarded l (put debt x (put (debt x) t v)) u
put_guarded debt x t u v IsFree never g = g
put_guarded debt x t u v (IsOwned j) never g = g
put_guarded debt x t u v IsLinked never g = g
put_guarded debt x t u v (IsUnlinked j) never g = g
put_guarded debt x t u v (IsDeferring j s c) never g = g
put_guarded debt x t u v (IsDeferred c) never g = g
put_guarded debt x t u v (IsPending j) never g = g
put_guarded debt x t u v (IsDoomed j) never g = g
put_guarded debt x t u v (IsLeft j) never g = g
put_guarded debt x t u v (IsIn y) never g = of_batch (eqb y x) (eqb-true y x)
  where
    of_slot : (q : Bool) → (q ≡ true → u ≡ t) → y ≡ x → Waits (cond q v (debt x u))
    of_slot true same_slot same_batch =
        let here : Waits (debt x t) = subst (λ (a : ℕ). Waits (debt a t)) same_batch (subst (λ (a : ℕ). Waits (debt y a)) (same_slot refl) g) in
        absurd (never here (same_slot refl))
    of_slot false same_slot same_batch = subst (λ (a : ℕ). Waits (debt a u)) same_batch g

    of_batch : (q : Bool) → (q ≡ true → y ≡ x) → Waits (cond q (put (debt x) t v) (debt y) u)
    of_batch true same_batch = of_slot (eqb u t) (eqb-true u t) (same_batch refl)
    of_batch false same_batch = g

-- no open section holds a block of a batch whose mark its slot has left
missed_guarded : (n x t : ℕ) (m : State) → Inv n m → HasLeft m x t → Guarded m.log m.life (put m.debt x (put (m.debt x) t Skipped))
missed_guarded n x t m inv left u b e = put_guarded m.debt x t u Skipped (m.life b) (never left) (inv.logged.guarded u b e)
  where
    never : HasLeft m x t → Waits (m.debt x t) → u ≡ t → ⊥
    never (inl idle) w same_slot =
        let active = inv.logged.opens u (held_open u b m.log e) in cc (subst (λ (a : ℕ). is_active (m.head a) ≡ true) same_slot active, idle)
    never (inr gone) w same_slot = subst (λ (d : Debt). Waits d) gone w

-- slot t has left since it was marked
pub missed_moves : (n i s : ℕ) (m : State) (x t : ℕ) (rest : List ℕ)
    → Inv n m → m.stage x ≡ Closing i → m.todo x ≡ t ∷ rest → HasLeft m x t → Moved n i s m (Moves.missed m x t rest)
missed_moves n i s m x t rest inv hs ht h = record {
  inv = record {
    debts = record {
      listed = λ y u. grind (arith, inv.debts.listed y u, (not_put (m.debt x t) (first_marked m.todo m.debt x t rest inv.debts.marked ht)).0);
      loosed = loose_put m.loose m.from m.debt x t _ inv.debts.loosed (λ j. grind (arith, (not_put (m.debt x t) (first_marked m.todo m.debt x t rest inv.debts.marked ht)).3 j));
      marked = rest_marked m.todo m.debt x t rest _ inv.debts.marked ht refl;
      scanned = seen_put m.seen m.debt x t _ inv.debts.scanned (marked_seen (m.debt x t) t (m.seen x) (first_marked m.todo m.debt x t rest inv.debts.marked ht) (inv.debts.scanned x t));
      seen_le = inv.debts.seen_le;
    };
    batches = record {
      fresh = inv.batches.fresh;
      blank = inv.batches.blank;
      tally = closing_tally n i m.stage m.counter m.debt m.seen m.todo x t _ rest inv.batches.tally hs
          (grind (arith, (not_put (m.debt x t) (first_marked m.todo m.debt x t rest inv.debts.marked ht)).1));
      mine = inv.batches.mine;
      sole = inv.batches.sole;
      below = inv.batches.below;
      shut = inv.batches.shut;
      rested = λ u l e. grind (arith, inv.batches.rested u l, inv.batches.mine u l);
    };
    places = inv.places;
    logged = record {
      guarded = λ u b e. missed_guarded n x t m inv h u b e;
      opens = inv.logged.opens;
      inside = inv.logged.inside;
      reaches = inv.logged.reaches;
      given = inv.logged.given;
      used = inv.logged.used;
      on_way = inv.logged.on_way;
      sound = inv.logged.sound;
    };
    slots = inv.slots;
  };
  keeps = record {
    rows = λ j e. same_row (row_of m j);
    slots = λ t e. same_slot (slot_of m t);
    holding = λ j t e f. (refl, refl);
    batches = λ j y e f. record { stage = refl; blocks = refl; seen = refl; todo = grind arith; done = grind arith };
    lives = λ j c e f. (refl, refl);
    lists = λ j c e f. refl;
    taken_slots = λ t e. e;
    marked = λ j y u ne closing d. (other_marked m.stage m.debt _ j y x u closing (λ e. grind (arith, ne, hs, e)) d, ([], refl));
    lengths = λ t l. not_longer _;
  };
}

-- what is counted is not marked
still_marked : (debt : ℕ → ℕ → Debt) (x t y u : ℕ) → put debt x (put (debt x) t Counted) y u ≡ Marked → debt y u ≡ Marked
still_marked debt x t y u = one (eqb y x) (eqb-true y x)
  where
    there : (q : Bool) → y ≡ x → cond q Counted (debt x u) ≡ Marked → debt y u ≡ Marked
    there true e k = absurd (cc k)
    there false e k = ap (λ (a : ℕ). debt a u) e ∙ k

    one : (q : Bool) → (q ≡ true → y ≡ x) → cond q (put (debt x) t Counted) (debt y) u ≡ Marked → debt y u ≡ Marked
    one true e k = there (eqb u t) (e refl) k
    one false e k = k

-- a batch that stays one with its blocks
stage_boxed : (stage : ℕ → Stage) (blocks : ℕ → List ℕ) (life : ℕ → Life) (x : ℕ) (v : Stage)
    → Boxed stage blocks life → (stage x ≡ Dead → ⊥) → (v ≡ Dead → ⊥) → Boxed (put stage x v) blocks life
stage_boxed stage blocks life x v h ne nv c b = at (eqb c x) (eqb-true c x)
  where
    both : (st : Stage) (a b : ℕ) → a ≡ b → SameUnlessDead st a b
    both st a b e = grind arith

    at : (y : Bool) → (y ≡ true → c ≡ x) → SameUnlessDead (cond y v (stage c)) (count b (blocks c)) (is_in c (life b))
    at true p = both v _ _ (same_box (stage c) _ _ (λ d. ne (cc (p refl, d))) (h c b))
    at false p = h c b

stage_housed : (stage : ℕ → Stage) (life : ℕ → Life) (x : ℕ) (v : Stage) → Housed life stage → IsLive v ≡ true → Housed life (put stage x v)
stage_housed stage life x v h k b c e = at (eqb c x)
  where
    at : (y : Bool) → IsLive (cond y v (stage c)) ≡ true
    at true = k
    at false = h b c e

-- the counter of a batch, once the number of its entries is added
summed_tally : (n i : ℕ) (stage : ℕ → Stage) (counter : ℕ → ℕ) (debt : ℕ → ℕ → Debt) (seen : ℕ → ℕ) (todo : ℕ → List ℕ) (x : ℕ)
    → n < 2 ^ 64 → Tally n stage counter debt seen todo → stage x ≡ Closing i → todo x ≡ []
    → Tally n (put stage x Closed) (put counter x ((counter x + total was_put (debt x) n) % 2 ^ 64)) debt seen todo
summed_tally n i stage counter debt seen todo x small h hs ht =
    put_both (λ y st c. AtStage n st c (debt y) (seen y) (todo y)) stage counter x Closed _
    (one (stage x) (counter x) (debt x) (seen x) (h x) hs (put_parts (debt x) n) (put_le (debt x) n)) h
  where
    one : (st : Stage) (c : ℕ) (d : ℕ → Debt) (k : ℕ) → AtStage n st c d k (todo x) → st ≡ Closing i → total was_put d n ≡ total owes d n + total counts d n
        → total was_put d n ≤ n → AtStage n Closed ((c + total was_put d n) % 2 ^ 64) d k (todo x)
    one (Closing j) c d k a e p l = (omega (arith, a.0, p, l, small), a.1, ht)
    one Unused c d k a e p l = absurd (cc e)
    one (Open u) c d k a e p l = absurd (cc e)
    one Closed c d k a e p l = absurd (cc e)
    one Dead c d k a e p l = absurd (cc e)

-- row i has pushed the last entry, and adds their number
pub summed_moves : (n i s : ℕ) (m : State) (x : ℕ)
    → n < 2 ^ 64 → Inv n m → m.stage x ≡ Closing i → m.todo x ≡ [] → Moved n i s m (Moves.summed n m i x)
summed_moves n i s m x small inv hs ht = record {
  inv = record {
    debts = inv.debts;
    batches = record {
      fresh = λ y e. grind (arith, inv.batches.fresh y);
      blank = λ y e. grind (arith, inv.batches.blank y);
      tally = summed_tally n i m.stage m.counter m.debt m.seen m.todo x small inv.batches.tally hs ht;
      mine = λ u l. grind (arith, inv.batches.mine u l);
      sole = λ u y e. grind (arith, inv.batches.sole u y);
      below = λ u y e. grind (arith, inv.batches.below u y);
      shut = λ j y e. grind (arith, inv.batches.shut j y, inv.batches.shut i x);
      rested = inv.batches.rested;
    };
    places = record {
      boxed = stage_boxed m.stage m.blocks m.life x Closed inv.places.boxed (λ e. cc (hs, e)) (λ e. cc e);
      to_take = inv.places.to_take;
      to_retire = inv.places.to_retire;
      all_deferred = inv.places.all_deferred;
      housed = stage_housed m.stage m.life x Closed inv.places.housed refl;
      carries = inv.places.carries;
    };
    logged = inv.logged;
    slots = inv.slots;
  };
  keeps = record {
    rows = λ j e. record { loose = refl; from = refl; left = refl; pending = refl; puts = refl; closing = grind arith; section = refl; defers = refl };
    slots = λ t e. same_slot (slot_of m t);
    holding = λ j t e f. (refl, refl);
    batches = λ j y e f. record { stage = grind arith; blocks = refl; seen = refl; todo = refl; done = refl };
    lives = λ j c e f. (refl, refl);
    lists = λ j c e f. refl;
    taken_slots = λ t e. e;
    marked = λ j x t ne closing d. (d, ([], refl));
    lengths = λ t l. not_longer _;
  };
}

-- a row's first loose entry is owed by the slot that it was taken from
pub first_loose : (loose : ℕ → List Entry) (from : ℕ → ℕ) (debt : ℕ → ℕ → Debt) (i : ℕ) (e : Entry) (es : List Entry)
    → AllLoose loose from debt → loose i ≡ e ∷ es → (debt e.batch (from i) ≡ Loose i) × (entries e.batch es ≡ 0)
first_loose loose from debt i e es h k = grind (arith, h e.batch (from i) i)

counted_loose : (loose : ℕ → List Entry) (from : ℕ → ℕ) (debt : ℕ → ℕ → Debt) (i : ℕ) (e : Entry) (es : List Entry)
    → AllLoose loose from debt → loose i ≡ e ∷ es
    → AllLoose (put loose i es) from (put debt e.batch (put (debt e.batch) (from i) Counted))
counted_loose loose from debt i e es h k y u j = at (eqb j i) (eqb-true j i) (eqb-false j i)
  where
    q : (debt e.batch (from i) ≡ Loose i) × (entries e.batch es ≡ 0)
    q = first_loose loose from debt i e es h k

    at : (b : Bool) → (b ≡ true → j ≡ i) → (b ≡ false → j ≡ i → ⊥)
        → cond (eqb u (from j)) (entries y (cond b es (loose j))) 0 ≡ is_loose j (put debt e.batch (put (debt e.batch) (from i) Counted) y u)
    at true p r = grind (arith, p refl, q, h y u i, k)
    at false p r = cc (h y u j, put_alike (is_loose j) debt e.batch (from i) Counted y u (grind (arith, r refl, q)))

-- one count down, by the batch's stage
counted_at : (n c : ℕ) (st : Stage) (d d2 : ℕ → Debt) (k : ℕ) (todo : List ℕ)
    → n < 2 ^ 64 → total was_put d n ≡ total owes d n + total counts d n → total was_put d n ≤ n
    → total was_put d2 n ≡ total was_put d n → total owes d2 n + 1 ≡ total owes d n → total counts d2 n ≡ total counts d n + 1
    → AtStage n st c d k todo → AtStage n st ((c + (2 ^ 64 - 1)) % 2 ^ 64) d2 k todo
counted_at n c Unused d d2 k todo small p l e1 e2 e3 a = absurd (omega (arith, a.1, p, e2))
counted_at n c (Open s) d d2 k todo small p l e1 e2 e3 a = absurd (omega (arith, a.1, p, e2))
counted_at n c (Closing i) d d2 k todo small p l e1 e2 e3 a = (omega (arith, a.0, e3), a.1)
counted_at n c Closed d d2 k todo small p l e1 e2 e3 a = (omega (arith, a.0, e2, p, l, small), a.1, a.2)
counted_at n c Dead d d2 k todo small p l e1 e2 e3 a = absurd (omega (arith, a, e2))

counted_tally : (n i t : ℕ) (stage : ℕ → Stage) (counter : ℕ → ℕ) (debt : ℕ → ℕ → Debt) (seen : ℕ → ℕ) (todo : ℕ → List ℕ) (x : ℕ)
    → n < 2 ^ 64 → t < n → debt x t ≡ Loose i → Tally n stage counter debt seen todo
    → Tally n stage (put counter x ((counter x + (2 ^ 64 - 1)) % 2 ^ 64)) (put debt x (put (debt x) t Counted)) seen todo
counted_tally n i t stage counter debt seen todo x small l e h =
    put_both (λ y c d. AtStage n (stage y) c d (seen y) (todo y)) counter debt x _ (put (debt x) t Counted)
    (counted_at n (counter x) (stage x) (debt x) (put (debt x) t Counted) (seen x) (todo x) small (put_parts (debt x) n) (put_le (debt x) n)
    (grind (arith, total-put was_put (debt x) t Counted n l, e)) (grind (arith, total-put owes (debt x) t Counted n l, e))
    (grind (arith, total-put counts (debt x) t Counted n l, e)) (h x))
    h

counted_guarded : (log : List Effect) (life : ℕ → Life) (debt : ℕ → ℕ → Debt) (x t i : ℕ)
    → Guarded log life debt → debt x t ≡ Loose i → Guarded log life (put debt x (put (debt x) t Counted))
counted_guarded log life debt x t i h q u c e = grind (arith, h u c e)

-- row i counts its first loose entry down
pub counted_moves : (n i s : ℕ) (m : State) (e : Entry) (es : List Entry)
    → n < 2 ^ 64 → Inv n m → m.loose i ≡ e ∷ es → m.debt e.batch (m.from i) ≡ Loose i → Moved n i s m (Moves.counted m i e es)
counted_moves n i s m e es small inv h hd = record {
  inv = record {
    debts = record {
      listed = λ y u. cc (inv.debts.listed y u, put_alike on_list m.debt e.batch (m.from i) Counted y u (rw hd refl));
      loosed = counted_loose m.loose m.from m.debt i e es inv.debts.loosed h;
      marked = λ y u. cc (inv.debts.marked y u, put_alike is_marked m.debt e.batch (m.from i) Counted y u (rw hd refl));
      scanned = seen_put m.seen m.debt e.batch (m.from i) Counted inv.debts.scanned (rw hd at (inv.debts.scanned e.batch (m.from i)));
      seen_le = inv.debts.seen_le;
    };
    batches = record {
      fresh = inv.batches.fresh;
      blank = inv.batches.blank;
      tally = counted_tally n i (m.from i) m.stage m.counter m.debt m.seen m.todo e.batch small
          (grind (arith, inv.debts.scanned e.batch (m.from i), inv.debts.seen_le e.batch)) hd inv.batches.tally;
      mine = inv.batches.mine;
      sole = inv.batches.sole;
      below = inv.batches.below;
      shut = inv.batches.shut;
      rested = inv.batches.rested;
    };
    places = inv.places;
    logged = record {
      guarded = counted_guarded m.log m.life m.debt e.batch (m.from i) i inv.logged.guarded hd;
      opens = inv.logged.opens;
      inside = inv.logged.inside;
      reaches = inv.logged.reaches;
      given = inv.logged.given;
      used = inv.logged.used;
      on_way = inv.logged.on_way;
      sound = inv.logged.sound;
    };
    slots = inv.slots;
  };
  keeps = record {
    rows = λ j e. record { loose = grind arith; from = refl; left = refl; pending = refl; puts = refl; closing = refl; section = refl; defers = refl };
    slots = λ t e. same_slot (slot_of m t);
    holding = λ j t e f. (refl, refl);
    batches = λ j y e2 f. record {
      stage = refl;
      blocks = refl;
      seen = refl;
      todo = refl;
      done = total_alike was_put m.debt e.batch (m.from i) Counted n y (rw hd refl);
    };
    lives = λ j c e f. (refl, refl);
    lists = λ j c e f. refl;
    taken_slots = λ t e. e;
    marked = λ j y u ne closing d. (still_marked m.debt e.batch (m.from i) y u d, ([], refl));
    lengths = λ t l. not_longer _;
  };
}

-- where the counter comes to zero the batch is closed
pub closed_at_zero : (n i : ℕ) (m : State) (e : Entry)
    → n < 2 ^ 64 → Inv n m → m.debt e.batch (m.from i) ≡ Loose i → (m.counter e.batch + (2 ^ 64 - 1)) % 2 ^ 64 ≡ 0 → m.stage e.batch ≡ Closed
closed_at_zero n i m e small inv hd z =
    one (m.stage e.batch) (m.counter e.batch) (m.debt e.batch) (m.seen e.batch) (m.todo e.batch) z (put_parts (m.debt e.batch) n) (put_le (m.debt e.batch) n)
    (rw hd at (total_le owes (m.debt e.batch) n (m.from i)
    (grind (arith, inv.debts.scanned e.batch (m.from i), inv.debts.seen_le e.batch)))) (inv.batches.tally e.batch)
  where
    one : (st : Stage) (c : ℕ) (d : ℕ → Debt) (k : ℕ) (todo : List ℕ) → (c + (2 ^ 64 - 1)) % 2 ^ 64 ≡ 0 → total was_put d n ≡ total owes d n + total counts d n
        → total was_put d n ≤ n → 1 ≤ total owes d n → AtStage n st c d k todo → st ≡ Closed
    one Unused c d k todo z p l o a = absurd (omega (arith, a.1, p, o))
    one (Open s) c d k todo z p l o a = absurd (omega (arith, a.1, p, o))
    one (Closing j) c d k todo z p l o a = absurd (omega (arith, a.0, z, p, l, o, small))
    one Closed c d k todo z p l o a = refl
    one Dead c d k todo z p l o a = absurd (omega (arith, a, o))
