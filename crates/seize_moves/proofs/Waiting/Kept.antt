-- Each change of the waiting sets keeps every number in them.
use Rattle.std.specs.Prelude.{◌==◌, max}
use Rattle.std.proofs.Common.{◌≡◌, ℕ, zero, suc, ◌+◌, ◌≤◌, Bool, true, false, cond, eqb, List, [], ◌∷◌, ◌++◌, length, refl, ap, arith, eqb-true, subst, sym, ◌∙◌, append_assoc}
use Rattle.seize.specs.WaitingSets.{Batch, Sets, After, with_open, with_active, with_closed, closing, then_also, quietly, with_slot, without, is_enough, is_done, no_more, still_closed, opened, size, given, given_all, flushed, counted, left, all_left, emptied, emptied_all, all_reclaimed, Change, Enters, Leaves, Refreshes, Retires, Flushes, Defers, Ends, ReclaimsAll, changed, all_changed}
use Rattle.seize_moves.specs.Waiting.Held.{count, held_closed, AllWaitFor, AscendFrom, Tidy, bare, all_held}
use Rattle.seize_moves.specs.Waiting.Changes.{MayChange, numbers_of, active_after, Keeps}
use Rattle.seize_moves.specs.Waiting.Following.{numbers_of_all, active_after_all}
use Rattle.seize_moves.specs.Waiting.Laws.{AllChangesKeep}
use Rattle.seize_moves.proofs.Waiting.Bound.{tried}
use Rattle.seize_moves.proofs.Waiting.Counts.{count-append}
use Rattle.seize_moves.proofs.Waiting.Tidy.{wait_on, still_wait, without_counted, without_ascends, first_gone, slot_counted, slot_ascends, opened_alike, opened_past, open_tidy, closing_tidy}
use Rattle.seize_moves.proofs.Waiting.Held.{bare_held, open_all_held, closing_all_held, once_after, then_keeps, nothing_keeps, tried_keeps, some_active, reclaiming, retired_all_keeps, given_keeps, all_in, given_all_keeps}

-- the slot is taken out of every set

closed_split : (n slot : ℕ) (batches : List Batch) → count n (all_in (no_more slot batches)) + held_closed n (still_closed slot batches) ≡ held_closed n batches
closed_split n slot [] = refl
closed_split n slot (b ∷ batches) = at (is_done slot b) (closed_split n slot batches)
  where
    r : Batch
    r = record { retired = b.retired; waits_for = without slot b.waits_for }

    at : (y : Bool) → count n (all_in (no_more slot batches)) + held_closed n (still_closed slot batches) ≡ held_closed n batches
        → count n (all_in (cond y (b ∷ no_more slot batches) (no_more slot batches))) + held_closed n (cond y (still_closed slot batches) (r ∷ still_closed slot batches))
        ≡ count n b.retired + held_closed n batches
    at true ih = let a = count-append n b.retired (all_in (no_more slot batches)) in omega (arith, a, ih)
    at false ih = omega (arith, ih)

pub held_closed-append : (n : ℕ) (first second : List Batch) → held_closed n (first ++ second) ≡ held_closed n first + held_closed n second
held_closed-append n [] second = omega arith
held_closed-append n (b ∷ first) second = let ih = held_closed-append n first second in omega (arith, ih)

wait-append : (active : List ℕ) (first second : List Batch) → AllWaitFor active first → AllWaitFor active second → AllWaitFor active (first ++ second)
wait-append active [] second h k = k
wait-append active (b ∷ first) second h k = (h.0, h.1, wait-append active first second h.2 k)

-- the slot is taken out of every set, and of the slots that were active at most this one is active no more
counted_keeps : (batch_size slot : ℕ) (active : List ℕ) (w : Sets) → Tidy (bare w) → ((n : ℕ) → all_held n w ≤ 1) → AscendFrom 0 active
    → ((t : ℕ) → (t ≡ slot → ⊥) → count t w.active ≤ count t active) → Keeps w [] active (counted batch_size slot (with_active w active))
counted_keeps batch_size slot active w t once ascends l = record {
  tidy = record {
    none_further = refl;
    unused = k.tidy.unused;
    waiting = wait-append a.sets.active a.sets.closed (still_closed slot w.closed) k.tidy.waiting
        (subst (λ (s : List ℕ). AllWaitFor s (still_closed slot w.closed)) (sym k.active_now) (still_wait slot w.active active w.closed l t.waiting));
    ascends = k.tidy.ascends;
  };
  active_now = k.active_now;
  balance = λ n. balance n;
  behind = k.behind;
}
  where
    start : Sets
    start = with_closed (with_active w active) []

    a : After
    a = given_all batch_size slot (no_more slot w.closed) start

    split : (n : ℕ) → all_held n start + count n (all_in (no_more slot w.closed)) + held_closed n (still_closed slot w.closed) ≡ all_held n w
    split n = let b = closed_split n slot w.closed in let c = opened_alike n w.slots start w refl in omega (arith, b, c)

    k : Keeps start (all_in (no_more slot w.closed)) active a
    k = given_all_keeps batch_size slot (no_more slot w.closed) start (record { none_further = refl; unused = t.unused; waiting = tt; ascends = ascends })
        (λ n. let b = split n in let c = once n in omega (arith, b, c))

    balance : (n : ℕ) → count n a.reclaimed + all_held n (with_closed a.sets (a.sets.closed ++ still_closed slot w.closed)) ≡ all_held n w + 0
    balance n =
        let b = k.balance n in
        let c = split n in
        let d = held_closed-append n a.sets.closed (still_closed slot w.closed) in
        let e = opened_alike n a.sets.slots (with_closed a.sets (a.sets.closed ++ still_closed slot w.closed)) a.sets refl in
        omega (arith, b, c, d, e)

left_keeps : (batch_size slot : ℕ) (w : Sets) → Tidy (bare w) → ((n : ℕ) → all_held n w ≤ 1) → Keeps w [] (without slot w.active) (left batch_size slot w)
left_keeps batch_size slot w t once = counted_keeps batch_size slot (without slot w.active) w t once (without_ascends slot 0 w.active t.ascends) others
  where
    others : (u : ℕ) → (u ≡ slot → ⊥) → count u w.active ≤ count u (without slot w.active)
    others u ne = at (eqb u slot) (eqb-true u slot) (without_counted slot u w.active)
      where
        at : (y : Bool) → (y ≡ true → u ≡ slot) → count u (without slot w.active) ≡ cond y 0 (count u w.active) → count u w.active ≤ count u (without slot w.active)
        at true r e = absurd (ne (r refl))
        at false r e = omega (arith, e)

refreshed_keeps : (batch_size slot : ℕ) (w : Sets) → Tidy (bare w) → ((n : ℕ) → all_held n w ≤ 1) → Keeps w [] w.active (counted batch_size slot w)
refreshed_keeps batch_size slot w t once = counted_keeps batch_size slot w.active w t once t.ascends (λ u ne. omega arith)

enters_keeps : (slot : ℕ) (w : Sets) → Tidy (bare w) → count slot w.active ≡ 0
    → Keeps w [] (with_slot slot w.active) (quietly (record w { active = with_slot slot w.active; slots = max w.slots (slot + 1) }))
enters_keeps slot w t h = record {
  tidy = record {
    none_further = refl;
    unused = λ s l. t.unused s (omega (arith, l));
    waiting = wait_on w.active (with_slot slot w.active) w.closed (λ u. let a = slot_counted slot u w.active in omega (arith, a)) t.waiting;
    ascends = slot_ascends slot 0 w.active (omega arith) h t.ascends;
  };
  active_now = refl;
  balance = λ n. balance n;
  behind = (nothing_keeps w t).behind;
}
  where
    end : Sets
    end = record w { active = with_slot slot w.active; slots = max w.slots (slot + 1) }

    balance : (n : ℕ) → 0 + all_held n end ≡ all_held n w + 0
    balance n =
        let k = max w.slots (slot + 1) in
        let a = opened_alike n k end (bare w) refl in
        let b = opened_past n k (bare w) t (omega arith) in
        let c = bare_held n w in
        omega (arith, a, b, c)

flushed_keeps : (batch_size slot : ℕ) (w : Sets) → Tidy (bare w) → ((n : ℕ) → all_held n w ≤ 1) → Keeps w [] w.active (flushed batch_size slot w)
flushed_keeps batch_size slot w t once = at (length (w.open_batch slot) == 0)
  where
    numbers : List ℕ
    numbers = w.open_batch slot

    u : Sets
    u = with_open w slot []

    taken : (n : ℕ) → all_held n u + count n (w.open_batch slot) ≡ all_held n w
    taken n = let a = open_all_held n slot [] w t in omega (arith, a)

    back : Keeps u (w.open_batch slot) w.active (given batch_size slot (w.open_batch slot) u)
    back = given_keeps batch_size slot (w.open_batch slot) u (open_tidy slot [] (bare w) t) (λ n. let a = taken n in let b = once n in omega (arith, a, b))

    given_back : Keeps w [] w.active (given batch_size slot (w.open_batch slot) u)
    given_back = record {
      tidy = back.tidy;
      active_now = back.active_now;
      balance = λ n. let a = taken n in let b = back.balance n in omega (arith, a, b);
      behind = back.behind;
    }

    at : (y : Bool) → Keeps w [] w.active
        (cond y (quietly w) (tried true (is_enough slot w) (length w.active == 0) (quietly w) (given batch_size slot (w.open_batch slot) (with_open w slot [])) (quietly (closing slot w))))
    at true = nothing_keeps w t
    at false = tried_keeps w [] true (is_enough slot w) (length w.active == 0) _ _ _ (nothing_keeps w t) given_back
        (λ e. record {
          tidy = closing_tidy slot (bare w) (some_active w.active e) t;
          active_now = refl;
          balance = λ n. let a = closing_all_held n slot w t in omega (arith, a);
          behind = (nothing_keeps w t).behind;
        })

-- everything is reclaimed

none_more : (n h : ℕ) → h ≤ 1 → h + 0 ≤ 1
none_more n h l = omega (arith, l)

-- the active slots leave, one after another
pub all_left_keeps : (batch_size : ℕ) (slots : List ℕ) (w : Sets) → Tidy (bare w) → ((n : ℕ) → all_held n w ≤ 1) → w.active ≡ slots → Keeps w [] [] (all_left batch_size slots w)
all_left_keeps batch_size [] w t once e = subst (λ (l : List ℕ). Keeps w [] l (quietly w)) e (nothing_keeps w t)
all_left_keeps batch_size (slot ∷ slots) w t once e =
    let first = left_keeps batch_size slot w t once in
    let gone = rest t.ascends e in
    then_keeps w [] [] (without slot w.active) [] (left batch_size slot w) (all_left batch_size slots) first
    (all_left_keeps batch_size slots (left batch_size slot w).sets first.tidy
    (once_after w [] (without slot w.active) (left batch_size slot w) first (λ n. none_more n (all_held n w) (once n))) (let a = first.active_now in cc (a, gone)))
  where
    rest : AscendFrom 0 w.active → w.active ≡ slot ∷ slots → without slot w.active ≡ slots
    rest a k = let b = first_gone slot slots (subst (AscendFrom 0) k a) in cc

pub emptied_keeps : (batch_size k : ℕ) (w : Sets) → Tidy (bare w) → ((n : ℕ) → all_held n w ≤ 1) → Keeps w [] w.active (emptied batch_size k w)
emptied_keeps batch_size zero w t once = nothing_keeps w t
emptied_keeps batch_size (suc k) w t once =
    let first = emptied_keeps batch_size k w t once in
    let v = (emptied batch_size k w).sets in
    then_keeps w [] [] w.active w.active (emptied batch_size k w) (flushed batch_size k) first
    (subst (λ (l : List ℕ). Keeps v [] l (flushed batch_size k v)) first.active_now
    (flushed_keeps batch_size k v first.tidy (once_after w [] w.active (emptied batch_size k w) first (λ n. none_more n (all_held n w) (once n)))))

emptied_all_keeps : (batch_size bound : ℕ) (w : Sets) → Tidy (bare w) → ((n : ℕ) → all_held n w ≤ 1) → Keeps w [] w.active (emptied_all batch_size bound w)
emptied_all_keeps batch_size zero w t once = nothing_keeps w t
emptied_all_keeps batch_size (suc bound) w t once =
    let first = emptied_keeps batch_size w.slots w t once in
    at (length (opened w.slots w) == 0) first
    (emptied_all_keeps batch_size bound (emptied batch_size w.slots w).sets first.tidy
    (once_after w [] w.active (emptied batch_size w.slots w) first (λ n. none_more n (all_held n w) (once n))))
  where
    v : Sets
    v = (emptied batch_size w.slots w).sets

    at : (y : Bool) → Keeps w [] w.active (emptied batch_size w.slots w) → Keeps v [] v.active (emptied_all batch_size bound v)
        → Keeps w [] w.active (cond y (quietly w) (then_also (emptied batch_size w.slots w) (emptied_all batch_size bound)))
    at true first rest = nothing_keeps w t
    at false first rest = then_keeps w [] [] w.active w.active (emptied batch_size w.slots w) (emptied_all batch_size bound) first
        (subst (λ (l : List ℕ). Keeps v [] l (emptied_all batch_size bound v)) first.active_now rest)

pub all_reclaimed_keeps : (batch_size : ℕ) (w : Sets) → Tidy (bare w) → ((n : ℕ) → all_held n w ≤ 1) → Keeps w [] [] (all_reclaimed batch_size w)
all_reclaimed_keeps batch_size w t once =
    let first = all_left_keeps batch_size w.active w t once refl in
    let v = (all_left batch_size w.active w).sets in
    then_keeps w [] [] [] [] (all_left batch_size w.active w) (λ v. emptied_all batch_size (size v) v) first
    (subst (λ (l : List ℕ). Keeps v [] l (emptied_all batch_size (size v) v)) first.active_now
    (emptied_all_keeps batch_size (size v) v first.tidy (once_after w [] [] (all_left batch_size w.active w) first (λ n. none_more n (all_held n w) (once n)))))

-- any change but one that puts a number behind another
pub changed_keeps : (batch_size : ℕ) (c : Change) (w : Sets) → Tidy (bare w) → ((n : ℕ) → all_held n w + count n (numbers_of c) ≤ 1) → MayChange c w
    → Keeps w (numbers_of c) (active_after c w.active) (changed batch_size c w)
changed_keeps batch_size (Enters s) w t once h = enters_keeps s w t h
changed_keeps batch_size (Leaves s) w t once h = left_keeps batch_size s w t (λ n. let a = once n in omega (arith, a))
changed_keeps batch_size (Refreshes s) w t once h = refreshed_keeps batch_size s w t (λ n. let a = once n in omega (arith, a))
changed_keeps batch_size (Retires s n) w t once h = retired_all_keeps batch_size (suc (size w)) s (n ∷ []) w t once
changed_keeps batch_size (Flushes s) w t once h = flushed_keeps batch_size s w t (λ n. let a = once n in omega (arith, a))
changed_keeps batch_size (Defers n behind) w t once h = absurd h
changed_keeps batch_size (Ends n) w t once h = absurd h
changed_keeps batch_size ReclaimsAll w t once h = all_reclaimed_keeps batch_size w t (λ n. let a = once n in omega (arith, a))

-- such changes one after another
pub all_changed_keep : (batch_size : ℕ) → AllChangesKeep batch_size
all_changed_keep batch_size [] w t once may = nothing_keeps w t
all_changed_keep batch_size (c ∷ changes) w t once may =
    let first = changed_keeps batch_size c w t (λ n. let a = once n in let b = parted n in omega (arith, a, b)) may.0 in
    let v = (changed batch_size c w).sets in
    then_keeps w (numbers_of c) (numbers_of_all changes) (active_after c w.active) (active_after_all changes (active_after c w.active)) (changed batch_size c w) (all_changed batch_size changes) first
    (subst (λ (l : List ℕ). Keeps v (numbers_of_all changes) (active_after_all changes l) (all_changed batch_size changes v)) first.active_now
    (all_changed_keep batch_size changes v first.tidy (λ n. let a = first.balance n in let b = once n in let d = parted n in omega (arith, a, b, d)) may.1))
  where
    parted : (n : ℕ) → count n (numbers_of c ++ numbers_of_all changes) ≡ count n (numbers_of c) + count n (numbers_of_all changes)
    parted n = count-append n (numbers_of c) (numbers_of_all changes)

-- changes, and others after them
pub all_changed-append : (batch_size : ℕ) (first second : List Change) (w : Sets) → all_changed batch_size (first ++ second) w ≡ then_also (all_changed batch_size first w) (all_changed batch_size second)
all_changed-append batch_size [] second w = refl
all_changed-append batch_size (c ∷ first) second w =
    let a = changed batch_size c w in
    let b = all_changed batch_size first a.sets in
    let d = all_changed batch_size second b.sets in
    ap (λ (x : After). reclaiming (a.reclaimed ++ x.reclaimed) x.sets) (all_changed-append batch_size first second a.sets)
    ∙ ap (λ (l : List ℕ). reclaiming l d.sets) (sym (append_assoc a.reclaimed b.reclaimed d.reclaimed))
