-- Waiting sets that are alike, where a number stands for one alone: each change leaves them so, and reclaims the same in the same order.
use Rattle.std.specs.Prelude.{if◌then◌else◌, ◌==◌, not, nat_lt, max}
use Rattle.std.proofs.Common.{◌≡◌, ℕ, zero, suc, ◌+◌, Bool, true, false, cond, List, [], ◌∷◌, ◌++◌, length, refl, ap, sym, subst, arith}
use Rattle.seize.specs.WaitingSets.{Batch, Sets, Change, Enters, Leaves, Refreshes, Retires, Flushes, Defers, ReclaimsAll, After, quietly, then_also, with_open, with_active, with_closed, without, with_slot, further_of_all, in_closed, opened, size, giving, closing, is_enough, is_done, no_more, still_closed, is_full, retired_all, given, given_all, retired, flushed, counted, left, all_left, emptied, emptied_all, all_reclaimed, changed, all_changed, at_start, ended, Ends}
use Rattle.run_kept.specs.Models.Alike.{AreAlike, BatchesAlike, SetsAlike, AfterAlike, ChangeAlike, ChangesAlike, IsOneToOne}
use Rattle.run_kept.proofs.Models.Alike.Lists.{append_alike, length_alike, further_length, further_of_all_alike, kept_alike, rest_alike}

module _ (R : ℕ → ℕ → Type 0) (one : IsOneToOne R) where
  quietly_alike : (w v : Sets) → SetsAlike R w v → AfterAlike R (quietly w) (quietly v)
  quietly_alike w v h = record { sets = h; reclaimed = tt }

  then_alike : (a b : After) (g k : Sets → After) → AfterAlike R a b → (SetsAlike R a.sets b.sets → AfterAlike R (g a.sets) (k b.sets)) → AfterAlike R (then_also a g) (then_also b k)
  then_alike a b g k h later =
      let r = later h.sets in record { sets = r.sets; reclaimed = append_alike R a.reclaimed b.reclaimed (g a.sets).reclaimed (k b.sets).reclaimed h.reclaimed r.reclaimed }

  if_alike : (b c : Bool) (p q p2 q2 : After) → b ≡ c → AfterAlike R p p2 → AfterAlike R q q2 → AfterAlike R (if b then p else q) (if c then p2 else q2)
  if_alike b c p q p2 q2 e h k = subst (λ (z : Bool). AfterAlike R (if b then p else q) (if z then p2 else q2)) e (at b)
    where
      at : (z : Bool) → AfterAlike R (cond z p q) (cond z p2 q2)
      at true = h
      at false = k

  open_alike : (w v : Sets) (slot : ℕ) (xs ys : List ℕ) → SetsAlike R w v → AreAlike R xs ys → SetsAlike R (with_open w slot xs) (with_open v slot ys)
  open_alike w v slot xs ys h e = record {
    opens = λ s. at (s == slot) (w.open_batch s) (v.open_batch s) (h.opens s);
    closes = h.closes;
    actives = h.actives;
    used = ap (λ (k : ℕ). max k (slot + 1)) h.used;
    puts = h.puts;
  }
    where
      at : (b : Bool) (zs ws : List ℕ) → AreAlike R zs ws → AreAlike R (cond b xs zs) (cond b ys ws)
      at true zs ws k = e
      at false zs ws k = k

  closed_alike : (w v : Sets) (bs cs : List Batch) → SetsAlike R w v → BatchesAlike R bs cs → SetsAlike R (with_closed w bs) (with_closed v cs)
  closed_alike w v bs cs h e = record { opens = h.opens; closes = e; actives = h.actives; used = h.used; puts = h.puts }

  active_alike : (w v : Sets) (xs ys : List ℕ) → SetsAlike R w v → xs ≡ ys → SetsAlike R (with_active w xs) (with_active v ys)
  active_alike w v xs ys h e = record { opens = h.opens; closes = h.closes; actives = e; used = h.used; puts = h.puts }

  giving_alike : (w v : Sets) (xs ys : List ℕ) → SetsAlike R w v → AreAlike R xs ys → AfterAlike R (giving xs w) (giving ys v)
  giving_alike w v xs ys h e = record {
    sets = record { opens = h.opens; closes = h.closes; actives = h.actives; used = h.used; puts = kept_alike R one xs ys w.further v.further e h.puts };
    reclaimed = e;
  }

  closing_alike : (w v : Sets) (slot : ℕ) → SetsAlike R w v → SetsAlike R (closing slot w) (closing slot v)
  closing_alike w v slot h = closed_alike (with_open w slot []) (with_open v slot []) _ _ (open_alike w v slot [] [] h tt) (h.opens slot, h.actives, h.closes)

  full_alike : (batch_size : ℕ) (w v : Sets) (slot : ℕ) → SetsAlike R w v → is_full batch_size slot w ≡ is_full batch_size slot v
  full_alike batch_size w v slot h = ap (λ (k : ℕ). not (nat_lt k (max batch_size 1))) (length_alike R (w.open_batch slot) (v.open_batch slot) (h.opens slot))

  enough_alike : (w v : Sets) (slot : ℕ) → SetsAlike R w v → is_enough slot w ≡ is_enough slot v
  enough_alike w v slot h = both _ _ _ _ (length_alike R (w.open_batch slot) (v.open_batch slot) (h.opens slot)) h.actives
    where
      both : (j k : ℕ) (l r : List ℕ) → j ≡ k → l ≡ r → not (nat_lt j (length l)) ≡ not (nat_lt k (length r))
      both j k l r d e = cc (d, e)

  idle_alike : (w v : Sets) → SetsAlike R w v → (length w.active == 0) ≡ (length v.active == 0)
  idle_alike w v h = ap (λ (l : List ℕ). length l == 0) h.actives

  -- numbers are retired, one after another
  retired_all_alike : (batch_size n slot : ℕ) (xs ys : List ℕ) (w v : Sets) → SetsAlike R w v → AreAlike R xs ys
      → AfterAlike R (retired_all batch_size n slot xs w) (retired_all batch_size n slot ys v)
  retired_all_alike batch_size n slot [] [] w v h l = quietly_alike w v h
  retired_all_alike batch_size n slot [] (y ∷ ys) w v h l = absurd l
  retired_all_alike batch_size n slot (x ∷ xs) [] w v h l = absurd l
  retired_all_alike batch_size zero slot (x ∷ xs) (y ∷ ys) w v h l =
      quietly_alike _ _ (open_alike w v slot _ _ h (append_alike R (w.open_batch slot) (v.open_batch slot) (x ∷ xs) (y ∷ ys) (h.opens slot) l))
  retired_all_alike batch_size (suc n) slot (x ∷ xs) (y ∷ ys) w v h l =
      let w2 = with_open w slot (w.open_batch slot ++ x ∷ []) in
      let v2 = with_open v slot (v.open_batch slot ++ y ∷ []) in
      let h2 : SetsAlike R w2 v2 = open_alike w v slot _ _ h (append_alike R (w.open_batch slot) (v.open_batch slot) (x ∷ []) (y ∷ []) (h.opens slot) (l.0, tt)) in
      let back = giving_alike (with_open w2 slot []) (with_open v2 slot []) (w2.open_batch slot) (v2.open_batch slot) (open_alike w2 v2 slot [] [] h2 tt) (h2.opens slot) in
      let u = (giving (w2.open_batch slot) (with_open w2 slot [])).sets in
      let u2 = (giving (v2.open_batch slot) (with_open v2 slot [])).sets in
      let more = append_alike R (further_of_all (w2.open_batch slot) w2.further) (further_of_all (v2.open_batch slot) v2.further) xs ys
      (further_of_all_alike R one (w2.open_batch slot) (v2.open_batch slot) w2.further v2.further (h2.opens slot) h2.puts) l.1 in
      if_alike _ _ _ _ _ _ (ap not (full_alike batch_size w2 v2 slot h2)) (retired_all_alike batch_size (suc n) slot xs ys w2 v2 h2 l.1)
      (if_alike _ _ _ _ _ _ (ap not (enough_alike w2 v2 slot h2)) (retired_all_alike batch_size (suc n) slot xs ys w2 v2 h2 l.1)
      (if_alike _ _ _ _ _ _ (idle_alike w2 v2 h2)
      (then_alike _ _ (retired_all batch_size n slot (further_of_all (w2.open_batch slot) w2.further ++ xs)) (retired_all batch_size n slot (further_of_all (v2.open_batch slot) v2.further ++ ys)) back
      (λ e. retired_all_alike batch_size n slot (further_of_all (w2.open_batch slot) w2.further ++ xs) (further_of_all (v2.open_batch slot) v2.further ++ ys) u u2 e more))
      (retired_all_alike batch_size (suc n) slot xs ys (closing slot w2) (closing slot v2) (closing_alike w2 v2 slot h2) l.1)))

  opened_alike : (w v : Sets) (n : ℕ) → SetsAlike R w v → AreAlike R (opened n w) (opened n v)
  opened_alike w v zero h = tt
  opened_alike w v (suc n) h = append_alike R (opened n w) (opened n v) (w.open_batch n) (v.open_batch n) (opened_alike w v n h) (h.opens n)

  -- the open batches of all slots that were ever used
  waits_alike : (w v : Sets) → SetsAlike R w v → AreAlike R (opened w.slots w) (opened v.slots v)
  waits_alike w v h = subst (λ (k : ℕ). AreAlike R (opened w.slots w) (opened k v)) h.used (opened_alike w v w.slots h)

  in_closed_alike : (bs cs : List Batch) → BatchesAlike R bs cs → in_closed bs ≡ in_closed cs
  in_closed_alike [] [] h = refl
  in_closed_alike [] (c ∷ cs) h = absurd h
  in_closed_alike (b ∷ bs) [] h = absurd h
  in_closed_alike (b ∷ bs) (c ∷ cs) h = let k = length_alike R b.retired c.retired h.0 in let ih = in_closed_alike bs cs h.2 in omega (arith, k, ih)

  size_alike : (w v : Sets) → SetsAlike R w v → size w ≡ size v
  size_alike w v h =
      let a = length_alike R (opened w.slots w) (opened v.slots v) (waits_alike w v h) in
      let b = in_closed_alike w.closed v.closed h.closes in
      let c = further_length R w.further v.further h.puts in
      omega (arith, a, b, c)

  -- what is reclaimed, and what it puts
  given_alike : (batch_size slot : ℕ) (xs ys : List ℕ) (w v : Sets) → SetsAlike R w v → AreAlike R xs ys → AfterAlike R (given batch_size slot xs w) (given batch_size slot ys v)
  given_alike batch_size slot xs ys w v h e =
      let more = further_of_all_alike R one xs ys w.further v.further e h.puts in
      then_alike (giving xs w) (giving ys v) (retired_all batch_size (size w) slot (further_of_all xs w.further)) (retired_all batch_size (size v) slot (further_of_all ys v.further))
      (giving_alike w v xs ys h e)
      (λ k.
      subst (λ (n : ℕ). AfterAlike R (retired_all batch_size (size w) slot (further_of_all xs w.further) (giving xs w).sets) (retired_all batch_size n slot (further_of_all ys v.further) (giving ys v).sets))
      (size_alike w v h) (retired_all_alike batch_size (size w) slot (further_of_all xs w.further) (further_of_all ys v.further) (giving xs w).sets (giving ys v).sets k more))

  given_all_alike : (batch_size slot : ℕ) (bs cs : List Batch) (w v : Sets) → SetsAlike R w v → BatchesAlike R bs cs
      → AfterAlike R (given_all batch_size slot bs w) (given_all batch_size slot cs v)
  given_all_alike batch_size slot [] [] w v h l = quietly_alike w v h
  given_all_alike batch_size slot [] (c ∷ cs) w v h l = absurd l
  given_all_alike batch_size slot (b ∷ bs) [] w v h l = absurd l
  given_all_alike batch_size slot (b ∷ bs) (c ∷ cs) w v h l =
      then_alike _ _ (given_all batch_size slot bs) (given_all batch_size slot cs) (given_alike batch_size slot b.retired c.retired w v h l.0)
      (λ k. given_all_alike batch_size slot bs cs _ _ k l.2)

  flushed_alike : (batch_size slot : ℕ) (w v : Sets) → SetsAlike R w v → AfterAlike R (flushed batch_size slot w) (flushed batch_size slot v)
  flushed_alike batch_size slot w v h =
      if_alike _ _ _ _ _ _ (ap (λ (k : ℕ). k == 0) (length_alike R (w.open_batch slot) (v.open_batch slot) (h.opens slot))) (quietly_alike w v h)
      (if_alike _ _ _ _ _ _ (ap not (enough_alike w v slot h)) (quietly_alike w v h)
      (if_alike _ _ _ _ _ _ (idle_alike w v h)
      (given_alike batch_size slot (w.open_batch slot) (v.open_batch slot) (with_open w slot []) (with_open v slot []) (open_alike w v slot [] [] h tt) (h.opens slot))
      (quietly_alike _ _ (closing_alike w v slot h))))

  -- batches wait for the same slots
  done_alike : (slot : ℕ) (b c : Batch) → b.waits_for ≡ c.waits_for → is_done slot b ≡ is_done slot c
  done_alike slot b c e = ap (λ (l : List ℕ). length (without slot l) == 0) e

  no_more_alike : (slot : ℕ) (bs cs : List Batch) → BatchesAlike R bs cs → BatchesAlike R (no_more slot bs) (no_more slot cs)
  no_more_alike slot [] [] h = tt
  no_more_alike slot [] (c ∷ cs) h = absurd h
  no_more_alike slot (b ∷ bs) [] h = absurd h
  no_more_alike slot (b ∷ bs) (c ∷ cs) h = by (is_done slot b) (is_done slot c) (done_alike slot b c h.1) (no_more_alike slot bs cs h.2)
    where
      by : (p q : Bool) → p ≡ q → BatchesAlike R (no_more slot bs) (no_more slot cs)
          → BatchesAlike R (cond p (b ∷ no_more slot bs) (no_more slot bs)) (cond q (c ∷ no_more slot cs) (no_more slot cs))
      by true true e ih = (h.0, h.1, ih)
      by true false e ih = absurd (cc e)
      by false true e ih = absurd (cc e)
      by false false e ih = ih

  still_closed_alike : (slot : ℕ) (bs cs : List Batch) → BatchesAlike R bs cs → BatchesAlike R (still_closed slot bs) (still_closed slot cs)
  still_closed_alike slot [] [] h = tt
  still_closed_alike slot [] (c ∷ cs) h = absurd h
  still_closed_alike slot (b ∷ bs) [] h = absurd h
  still_closed_alike slot (b ∷ bs) (c ∷ cs) h = by (is_done slot b) (is_done slot c) (done_alike slot b c h.1) (still_closed_alike slot bs cs h.2)
    where
      by : (p q : Bool) → p ≡ q → BatchesAlike R (still_closed slot bs) (still_closed slot cs)
          → BatchesAlike R (cond p (still_closed slot bs) (record { retired = b.retired; waits_for = without slot b.waits_for } ∷ still_closed slot bs))
          (cond q (still_closed slot cs) (record { retired = c.retired; waits_for = without slot c.waits_for } ∷ still_closed slot cs))
      by true true e ih = ih
      by true false e ih = absurd (cc e)
      by false true e ih = absurd (cc e)
      by false false e ih = (h.0, ap (without slot) h.1, ih)

  both_alike : (bs cs ds es : List Batch) → BatchesAlike R bs cs → BatchesAlike R ds es → BatchesAlike R (bs ++ ds) (cs ++ es)
  both_alike [] [] ds es h k = k
  both_alike [] (c ∷ cs) ds es h k = absurd h
  both_alike (b ∷ bs) [] ds es h k = absurd h
  both_alike (b ∷ bs) (c ∷ cs) ds es h k = (h.0, h.1, both_alike bs cs ds es h.2 k)

  counted_alike : (batch_size slot : ℕ) (w v : Sets) → SetsAlike R w v → AfterAlike R (counted batch_size slot w) (counted batch_size slot v)
  counted_alike batch_size slot w v h =
      let a = given_all_alike batch_size slot (no_more slot w.closed) (no_more slot v.closed) (with_closed w []) (with_closed v [])
      (closed_alike w v [] [] h tt) (no_more_alike slot w.closed v.closed h.closes) in
      record {
        sets = closed_alike _ _ _ _ a.sets (both_alike _ _ (still_closed slot w.closed) (still_closed slot v.closed) a.sets.closes (still_closed_alike slot w.closed v.closed h.closes));
        reclaimed = a.reclaimed;
      }

  left_alike : (batch_size slot : ℕ) (w v : Sets) → SetsAlike R w v → AfterAlike R (left batch_size slot w) (left batch_size slot v)
  left_alike batch_size slot w v h = counted_alike batch_size slot _ _ (active_alike w v _ _ h (ap (without slot) h.actives))

  all_left_alike : (batch_size : ℕ) (slots : List ℕ) (w v : Sets) → SetsAlike R w v → AfterAlike R (all_left batch_size slots w) (all_left batch_size slots v)
  all_left_alike batch_size [] w v h = quietly_alike w v h
  all_left_alike batch_size (slot ∷ slots) w v h =
      then_alike _ _ (all_left batch_size slots) (all_left batch_size slots) (left_alike batch_size slot w v h) (λ k. all_left_alike batch_size slots _ _ k)

  emptied_alike : (batch_size n : ℕ) (w v : Sets) → SetsAlike R w v → AfterAlike R (emptied batch_size n w) (emptied batch_size n v)
  emptied_alike batch_size zero w v h = quietly_alike w v h
  emptied_alike batch_size (suc n) w v h =
      then_alike _ _ (flushed batch_size n) (flushed batch_size n) (emptied_alike batch_size n w v h) (λ k. flushed_alike batch_size n _ _ k)

  emptied_all_alike : (batch_size n : ℕ) (w v : Sets) → SetsAlike R w v → AfterAlike R (emptied_all batch_size n w) (emptied_all batch_size n v)
  emptied_all_alike batch_size zero w v h = quietly_alike w v h
  emptied_all_alike batch_size (suc n) w v h =
      if_alike _ _ _ _ _ _ (ap (λ (k : ℕ). k == 0) (length_alike R (opened w.slots w) (opened v.slots v) (waits_alike w v h))) (quietly_alike w v h)
      (then_alike _ _ (emptied_all batch_size n) (emptied_all batch_size n)
      (subst (λ (k : ℕ). AfterAlike R (emptied batch_size w.slots w) (emptied batch_size k v)) h.used (emptied_alike batch_size w.slots w v h))
      (λ k. emptied_all_alike batch_size n _ _ k))

  all_reclaimed_alike : (batch_size : ℕ) (w v : Sets) → SetsAlike R w v → AfterAlike R (all_reclaimed batch_size w) (all_reclaimed batch_size v)
  all_reclaimed_alike batch_size w v h =
      then_alike (all_left batch_size w.active w) (all_left batch_size v.active v) (λ u. emptied_all batch_size (size u) u) (λ u. emptied_all batch_size (size u) u)
      (subst (λ (l : List ℕ). AfterAlike R (all_left batch_size w.active w) (all_left batch_size l v)) h.actives (all_left_alike batch_size w.active w v h))
      (λ k.
      let u = (all_left batch_size w.active w).sets in
      let u2 = (all_left batch_size v.active v).sets in
      subst (λ (n : ℕ). AfterAlike R (emptied_all batch_size (size u) u) (emptied_all batch_size n u2)) (size_alike u u2 k) (emptied_all_alike batch_size (size u) u u2 k))

  entered_alike : (s : ℕ) (w v : Sets) → SetsAlike R w v
      → SetsAlike R (record w { active = with_slot s w.active; slots = max w.slots (s + 1) }) (record v { active = with_slot s v.active; slots = max v.slots (s + 1) })
  entered_alike s w v h = record {
    opens = h.opens;
    closes = h.closes;
    actives = ap (with_slot s) h.actives;
    used = ap (λ (k : ℕ). max k (s + 1)) h.used;
    puts = h.puts;
  }

  retired_alike : (batch_size slot n k : ℕ) (w v : Sets) → SetsAlike R w v → R n k → AfterAlike R (retired batch_size slot n w) (retired batch_size slot k v)
  retired_alike batch_size slot n k w v h r =
      subst (λ (j : ℕ). AfterAlike R (retired_all batch_size (suc (size w)) slot (n ∷ []) w) (retired_all batch_size (suc j) slot (k ∷ []) v)) (size_alike w v h)
      (retired_all_alike batch_size (suc (size w)) slot (n ∷ []) (k ∷ []) w v h (r, tt))

  deferred_alike : (n behind k other : ℕ) (w v : Sets) → SetsAlike R w v → R n k → R behind other
      → SetsAlike R (record w { further = record { number = n; behind = behind } ∷ w.further }) (record v { further = record { number = k; behind = other } ∷ v.further })
  deferred_alike n behind k other w v h r q = record { opens = h.opens; closes = h.closes; actives = h.actives; used = h.used; puts = (r, q, h.puts) }

  ended_alike : (n k : ℕ) (w v : Sets) → SetsAlike R w v → R n k → SetsAlike R (ended n w) (ended k v)
  ended_alike n k w v h r = record { opens = h.opens; closes = h.closes; actives = h.actives; used = h.used; puts = rest_alike R one n k w.further v.further r h.puts }

  -- what a change leaves, and what it reclaims
  pub changed_alike : (batch_size : ℕ) (c d : Change) (w v : Sets) → SetsAlike R w v → ChangeAlike R c d → AfterAlike R (changed batch_size c w) (changed batch_size d v)
  changed_alike batch_size c d w v h l = by c l
    where
      told : (c e : Change) → d ≡ e → AfterAlike R (changed batch_size c w) (changed batch_size e v) → AfterAlike R (changed batch_size c w) (changed batch_size d v)
      told c e is k = subst (λ (x : Change). AfterAlike R (changed batch_size c w) (changed batch_size x v)) (sym is) k

      by : (c : Change) → ChangeAlike R c d → AfterAlike R (changed batch_size c w) (changed batch_size d v)
      by (Enters s) l = told (Enters s) (Enters s) l (quietly_alike _ _ (entered_alike s w v h))
      by (Leaves s) l = told (Leaves s) (Leaves s) l (left_alike batch_size s w v h)
      by (Refreshes s) l = told (Refreshes s) (Refreshes s) l (counted_alike batch_size s w v h)
      by (Retires s n) l = told (Retires s n) (Retires s l.0) l.2 (retired_alike batch_size s n l.0 w v h l.1)
      by (Flushes s) l = told (Flushes s) (Flushes s) l (flushed_alike batch_size s w v h)
      by (Defers n behind) l = told (Defers n behind) (Defers l.0 l.1) l.4 (quietly_alike _ _ (deferred_alike n behind l.0 l.1 w v h l.2 l.3))
      by (Ends n) l = told (Ends n) (Ends l.0) l.2 (quietly_alike _ _ (ended_alike n l.0 w v h l.1))
      by ReclaimsAll l = told ReclaimsAll ReclaimsAll l (all_reclaimed_alike batch_size w v h)

  -- changes one after another
  pub all_alike : (batch_size : ℕ) (cs ds : List Change) (w v : Sets) → SetsAlike R w v → ChangesAlike R cs ds → AfterAlike R (all_changed batch_size cs w) (all_changed batch_size ds v)
  all_alike batch_size [] [] w v h l = quietly_alike w v h
  all_alike batch_size [] (d ∷ ds) w v h l = absurd l
  all_alike batch_size (c ∷ cs) [] w v h l = absurd l
  all_alike batch_size (c ∷ cs) (d ∷ ds) w v h l =
      then_alike (changed batch_size c w) (changed batch_size d v) (all_changed batch_size cs) (all_changed batch_size ds) (changed_alike batch_size c d w v h l.0)
      (λ k. all_alike batch_size cs ds _ _ k l.1)

pub start_alike : (R : ℕ → ℕ → Type 0) → SetsAlike R at_start at_start
start_alike R = record { opens = λ s. tt; closes = tt; actives = refl; used = refl; puts = tt }
