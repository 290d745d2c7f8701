-- Rounds of flushes in the world are the model's: they go on until nothing waits, and its bound is not met before.
use Rattle.std.specs.Prelude.{Option, Some, max, ◌==◌}
use Rattle.std.proofs.Common.{◌≡◌, ℕ, zero, suc, ◌+◌, ◌<◌, ◌≤◌, ◌^◌, Bool, true, false, cond, eqb, ltb, List, [], ◌++◌, length, refl, ap, arith, subst, sym, ◌∙◌, eqb-true, append_assoc}
use Rattle.std.proofs.lemmas.Bool.{eqb-false, ltb-true, ltb-false}
use Rattle.seize.specs.Given.SeizeWordsDeclared.at.At.TheVariants as name
use Rattle.seize.specs.Given.SeizeWordsMem.{word_at}
use Rattle.seize.specs.declared.states.TheConstants.{BATCH, LAST_SLOT}
use Rattle.seize.specs.WaitingSets.{Sets, After, quietly, then_also, opened, size, all_left, emptied, emptied_all, all_reclaimed}
use Rattle.seize.specs.World.{World}
use Rattle.seize_rule.specs.Given.SeizeWaitingHeld.{Once}
use Rattle.seize_rule.proofs.Given.SeizeWaitingFlushes.{len_below, opened_len, len_past, much, size_much, flushed_falls, emptied_active, emptied_slots, emptied_others, all_left_active, all_left_others}
use Rattle.seize_model.specs.Sets.Reclaims.{AllFlush, Rounds, Reclaims}
use Rattle.seize_rule.proofs.Given.SeizeMovesSets.Counters.{once_shown}
use Rattle.seize_model.proofs.Sets.Turns.Begins.{Shown, rest}
use Rattle.seize_rule.proofs.Given.SeizeMemoryWords.Named.{word_found}
use Rattle.seize_model.proofs.Sets.Reclaims.Sets.{Comes, slots_fit, active_taken, settled_come, reclaims_come, then_quiet, flush_quiet, emptied_times, flush_all, flush_rounds, open_none}
use Rattle.seize.proofs.Given.General.{no_length}

abbrev after_as : Sets → List ℕ → After
after_as s l = record { sets = s; reclaimed = l }

-- batches that are empty
module _ (batch_size : ℕ) where
  -- slots with nothing in their open batches more or less
  emptied_past : (j k : ℕ) (w : Sets) → k ≤ j → ((s : ℕ) → k ≤ s → (emptied batch_size k w).sets.open_batch s ≡ []) → emptied batch_size j w ≡ emptied batch_size k w
  emptied_past zero k w l h = ap (λ (u : ℕ). emptied batch_size u w) (let e : 0 ≡ k = omega (arith, l) in e)
  emptied_past (suc j) k w l h = at (eqb k (suc j)) refl (emptied_past j k w)
    where
      at : (y : Bool) → eqb k (suc j) ≡ y → (k ≤ j → ((s : ℕ) → k ≤ s → (emptied batch_size k w).sets.open_batch s ≡ []) → emptied batch_size j w ≡ emptied batch_size k w)
          → emptied batch_size (suc j) w ≡ emptied batch_size k w
      at true e ih = ap (λ (u : ℕ). emptied batch_size u w) (sym (eqb-true k (suc j) e))
      at false e ih =
          let m : k ≤ j = let a = eqb-false k (suc j) e in omega (arith, l, a) in
          let q = ih m h in
          let none : (emptied batch_size j w).sets.open_batch j ≡ [] = ap (λ (x : After). x.sets.open_batch j) q ∙ h j m in
          ap (λ (x : After). after_as x.sets ((emptied batch_size j w).reclaimed ++ x.reclaimed)) (flush_quiet batch_size j (emptied batch_size j w).sets none)
          ∙ then_quiet (emptied batch_size j w) ∙ q

  -- past both numbers nothing is open
  pub emptied_alike : (j k : ℕ) (w : Sets) → ((s : ℕ) → j ≤ s → w.open_batch s ≡ []) → ((s : ℕ) → k ≤ s → w.open_batch s ≡ []) → emptied batch_size j w ≡ emptied batch_size k w
  emptied_alike j k w h g = at (ltb j k) refl
    where
      at : (y : Bool) → ltb j k ≡ y → emptied batch_size j w ≡ emptied batch_size k w
      at true e = sym (emptied_past k j w (let a = ltb-true j k e in omega (arith, a)) (λ s l. emptied_others batch_size j w s l ∙ h s l))
      at false e = emptied_past j k w (ltb-false j k e) (λ s l. emptied_others batch_size k w s l ∙ g s l)

  -- a round in which nothing waits
  pub emptied_quiet : (k : ℕ) (w : Sets) → ((s : ℕ) → w.open_batch s ≡ []) → emptied batch_size k w ≡ quietly w
  emptied_quiet k w h = emptied_alike k 0 w (λ s l. h s) (λ s l. h s)

  times_quiet : (slots rounds : ℕ) (w : Sets) → ((s : ℕ) → w.open_batch s ≡ []) → emptied_times batch_size slots rounds w ≡ quietly w
  times_quiet slots zero w h = refl
  times_quiet slots (suc rounds) w h =
      ap (λ (x : After). then_also x (emptied batch_size slots)) (times_quiet slots rounds w h)
      ∙ emptied_quiet slots w h

  -- the first round, and then the others
  times_front : (slots rounds : ℕ) (w : Sets) → emptied_times batch_size slots (suc rounds) w ≡ then_also (emptied batch_size slots w) (emptied_times batch_size slots rounds)
  times_front slots zero w = sym (then_quiet (emptied batch_size slots w))
  times_front slots (suc rounds) w =
      let a = emptied batch_size slots w in
      let b = emptied_times batch_size slots rounds a.sets in
      ap (λ (x : After). then_also x (emptied batch_size slots)) (times_front slots rounds w)
      ∙ ap (after_as (emptied batch_size slots b.sets).sets) (append_assoc a.reclaimed b.reclaimed (emptied batch_size slots b.sets).reclaimed)

  times_others : (slots rounds : ℕ) (w : Sets) (s : ℕ) → slots ≤ s → (emptied_times batch_size slots rounds w).sets.open_batch s ≡ w.open_batch s
  times_others slots zero w s l = refl
  times_others slots (suc rounds) w s l = emptied_others batch_size slots (emptied_times batch_size slots rounds w).sets s l ∙ times_others slots rounds w s l

  pub all_quiet : (bound : ℕ) (w : Sets) → length (opened w.slots w) ≡ 0 → emptied_all batch_size bound w ≡ quietly w
  all_quiet zero w e = refl
  all_quiet (suc bound) w e = grind (arith, e)

  pub all_front : (bound : ℕ) (w : Sets) → (length (opened w.slots w) == 0) ≡ false → emptied_all batch_size (suc bound) w ≡ then_also (emptied batch_size w.slots w) (emptied_all batch_size bound)
  all_front bound w e = at (length (opened w.slots w) == 0) e
    where
      at : (y : Bool) → y ≡ false → cond y (quietly w) (then_also (emptied batch_size w.slots w) (emptied_all batch_size bound)) ≡ then_also (emptied batch_size w.slots w) (emptied_all batch_size bound)
      at true f = absurd (cc f)
      at false f = refl

-- nothing is open
none_below : (k : ℕ) (f : ℕ → List ℕ) → len_below k f ≡ 0 → (s : ℕ) → s < k → f s ≡ []
none_below zero f e s l = absurd (omega (arith, l))
none_below (suc k) f e s l = at (eqb s k) refl (none_below k f (omega (arith, e)) s)
  where
    at : (y : Bool) → eqb s k ≡ y → (s < k → f s ≡ []) → f s ≡ []
    at true q ih = ap f (eqb-true s k q) ∙ no_length (f k) (omega (arith, e))
    at false q ih = ih (let a = eqb-false s k q in omega (arith, l, a))

pub none_open_at_all : (w : Sets) → ((s : ℕ) → w.slots ≤ s → w.open_batch s ≡ []) → length (opened w.slots w) ≡ 0 → (s : ℕ) → w.open_batch s ≡ []
none_open_at_all w unused e s = at (ltb s w.slots) refl
  where
    at : (y : Bool) → ltb s w.slots ≡ y → w.open_batch s ≡ []
    at true q = none_below w.slots w.open_batch (let a = opened_len w.slots w in omega (arith, a, e)) s (ltb-true s w.slots q)
    at false q = unused s (ltb-false s w.slots q)

opened_none : (w : Sets) → ((s : ℕ) → w.open_batch s ≡ []) → length (opened w.slots w) ≡ 0
opened_none w h = let a = opened_len w.slots w in let b = len_past 0 w.slots w.open_batch (omega arith) (λ s l. h s) in omega (arith, a, b)

-- Where no slot is active, and none has an open batch, reclaiming all does nothing.
pub reclaimed_quiet : (batch_size : ℕ) (w : Sets) → w.active ≡ [] → ((s : ℕ) → w.open_batch s ≡ []) → all_reclaimed batch_size w ≡ quietly w
reclaimed_quiet batch_size w none unused =
    ap (λ (l : List ℕ). then_also (all_left batch_size l w) (λ (v : Sets). emptied_all batch_size (size v) v)) none ∙ all_quiet batch_size (size w) w (opened_none w unused)

module _ {T : Type 0} (defers : T → Option ℕ) (n batch_size : ℕ) (last : n ≡ LAST_SLOT + 1) (word : batch_size < 2 ^ 64) (i : ℕ) where
  once_now : (s : ℕ) (w : World T) (sets : Sets) → Shown defers n batch_size w sets → s < n → Once (sets.open_batch s) [] sets.further
  once_now s w sets shown l =
      subst (λ (p : List ℕ). Once (sets.open_batch s) p sets.further) (rest defers n batch_size last i w sets shown).pending
      (once_shown n i s shown.rested.good.state shown.order sets l shown.rested.good.inv shown.models)

  -- all numbers that stood in open batches are away
  round_falls : (s k : ℕ) (w v : World T) (sets : Sets) → s ≤ n → s ≤ k → Shown defers n batch_size w sets → sets.active ≡ [] → AllFlush defers batch_size i s w v
      → much k (emptied batch_size s sets).sets + len_below s sets.open_batch ≤ much k sets
  round_falls zero k w v sets l m shown e h = omega arith
  round_falls (suc s) k w v sets l m shown e h =
      let a = emptied batch_size s sets in
      let u = flush_all defers n batch_size last word i s w h.0 sets (omega (arith, l)) shown h.1 in
      let ih = round_falls s k w h.0 sets (omega (arith, l)) (omega (arith, m)) shown e h.1 in
      let one = flushed_falls batch_size s k a.sets (omega (arith, m)) (emptied_active batch_size s sets ∙ e) (once_now s h.0 a.sets u.shown (omega (arith, l))) in
      let same = ap (λ (p : List ℕ). length p) (emptied_others batch_size s sets s (omega arith)) in
      omega (arith, ih, one, same)

  -- the first round comes first
  rounds_front : (slots rounds : ℕ) (w v : World T) → Rounds defers batch_size i slots (suc rounds) w v
      → (u : World T) × AllFlush defers batch_size i slots w u × Rounds defers batch_size i slots rounds u v
  rounds_front slots zero w v h = (v, subst (λ (x : World T). AllFlush defers batch_size i slots x v) h.1 h.2, refl)
  rounds_front slots (suc rounds) w v h =
      let q = rounds_front slots rounds w h.0 h.1 in
      (q.0, q.1, (h.0, q.2, h.2))

  abbrev Model : ℕ → ℕ → Type 0
  Model slots rounds =
      (bound : ℕ) (w v : World T) (sets : Sets) → Shown defers n batch_size w sets → sets.active ≡ []
      → ((s : ℕ) → slots ≤ s → sets.open_batch s ≡ []) → Rounds defers batch_size i slots rounds w v → ((s : ℕ) → s < slots → word_at v.memory (name.Slot s BATCH) ≡ Some 0)
      → size sets ≤ bound → emptied_times batch_size slots rounds sets ≡ emptied_all batch_size bound sets

  -- the rounds of the world, after which nothing is open, are those of the model
  pub rounds_model : (slots rounds bound : ℕ) (w v : World T) (sets : Sets) → slots ≤ n → Shown defers n batch_size w sets → sets.active ≡ []
      → ((s : ℕ) → slots ≤ s → sets.open_batch s ≡ []) → Rounds defers batch_size i slots rounds w v → ((s : ℕ) → s < slots → word_at v.memory (name.Slot s BATCH) ≡ Some 0)
      → size sets ≤ bound → emptied_times batch_size slots rounds sets ≡ emptied_all batch_size bound sets
  rounds_model slots zero bound w v sets l shown e past h none b =
      sym (all_quiet batch_size bound sets (opened_none sets all))
    where
      all : (s : ℕ) → sets.open_batch s ≡ []
      all s = at (ltb s slots) refl
        where
          at : (y : Bool) → ltb s slots ≡ y → sets.open_batch s ≡ []
          at true q =
              let k = ltb-true s slots q in
              let z : word_at w.memory (name.Slot s BATCH) ≡ Some 0 = subst (λ (x : World T). word_at x.memory (name.Slot s BATCH) ≡ Some 0) h (none s k) in
              open_none defers n batch_size last word i s w sets shown (omega (arith, k, l)) (word_found w.memory (name.Slot s BATCH) 0 z)
          at false q = past s (ltb-false s slots q)
  rounds_model slots (suc rounds) bound w v sets l shown e past h none b =
      at (length (opened sets.slots sets) == 0) refl bound b
      (λ bound w v sets shown e past h none b. rounds_model slots rounds bound w v sets l shown e past h none b)
    where
      q : (u : World T) × AllFlush defers batch_size i slots w u × Rounds defers batch_size i slots rounds u v
      q = rounds_front slots rounds w v h

      a : After
      a = emptied batch_size slots sets

      first : Comes defers n batch_size last word i w q.0 sets a
      first = flush_all defers n batch_size last word i slots w q.0 sets l shown q.1

      fewer : length (opened sets.slots sets) + size a.sets ≤ size sets
      fewer =
          let k = max sets.slots slots in
          let x = round_falls slots k w q.0 sets l (omega arith) shown e q.1 in
          let y = size_much k sets (omega arith) shown.models.unused in
          let z = size_much k a.sets (emptied_slots batch_size slots k sets (omega arith) (omega arith)) first.shown.models.unused in
          let c = opened_len sets.slots sets in
          let d = len_past sets.slots k sets.open_batch (omega arith) shown.models.unused in
          let f = len_past slots k sets.open_batch (omega arith) past in
          omega (arith, x, y, z, c, d, f)

      at : (y : Bool) → (length (opened sets.slots sets) == 0) ≡ y → (bound : ℕ) → size sets ≤ bound → Model slots rounds → emptied_times batch_size slots (suc rounds) sets ≡ emptied_all batch_size bound sets
      at true f bound b more =
          let z = eqb-true (length (opened sets.slots sets)) 0 f in
          times_quiet batch_size slots (suc rounds) sets (none_open_at_all sets shown.models.unused z) ∙ sym (all_quiet batch_size bound sets z)
      at false f zero b more = let k = eqb-false (length (opened sets.slots sets)) 0 f in absurd (omega (arith, b, k))
      at false f (suc bound) b more =
          let k = eqb-false (length (opened sets.slots sets)) 0 f in
          let ih = more bound q.0 v a.sets first.shown (emptied_active batch_size slots sets ∙ e)
          (λ s m. emptied_others batch_size slots sets s m ∙ past s m) q.2 none (omega (arith, fewer, k, b)) in
          times_front batch_size slots rounds sets
          ∙ ap (λ (x : After). after_as x.sets (a.reclaimed ++ x.reclaimed)) ih
          ∙ ap (λ (x : After). then_also x (emptied_all batch_size bound)) (emptied_alike batch_size slots sets.slots sets past shown.models.unused)
          ∙ sym (all_front batch_size bound sets f)

  -- Reclaiming all reclaims what the model says, where no slot past those ever taken has an open batch.
  pub reclaims_model : (w v : World T) (sets : Sets) → Shown defers n batch_size w sets → (r : Reclaims defers batch_size i w v)
      → ((s : ℕ) → r.slots ≤ s → sets.open_batch s ≡ []) → Comes defers n batch_size last word i w v sets (all_reclaimed batch_size sets)
  reclaims_model w v sets shown r past =
      let le = slots_fit defers n batch_size last word i w v sets shown r in
      let first = settled_come defers n batch_size last word i w v sets shown r le in
      let a = all_left batch_size sets.active sets in
      let others : (s : ℕ) → r.slots ≤ s → a.sets.open_batch s ≡ [] = λ s l. all_left_others batch_size sets.active sets s (active_taken defers n batch_size last word i w v sets shown r s l) ∙ past s l in
      let e = rounds_model r.slots r.rounds (size a.sets) r.settled r.flushed a.sets le first.shown (all_left_active batch_size sets) others r.all_flush r.none_open (omega arith) in
      subst (λ (x : After). Comes defers n batch_size last word i w v sets (after_as x.sets (a.reclaimed ++ x.reclaimed))) e
      (reclaims_come defers n batch_size last word i w v sets shown r le)

  -- and then no slot has an open batch
  pub none_waits : (w v : World T) (sets : Sets) → Shown defers n batch_size w sets → (r : Reclaims defers batch_size i w v)
      → ((s : ℕ) → r.slots ≤ s → sets.open_batch s ≡ []) → (s : ℕ) → (all_reclaimed batch_size sets).sets.open_batch s ≡ []
  none_waits w v sets shown r past s =
      let le = slots_fit defers n batch_size last word i w v sets shown r in
      let first = settled_come defers n batch_size last word i w v sets shown r le in
      let a = all_left batch_size sets.active sets in
      let others : (s : ℕ) → r.slots ≤ s → a.sets.open_batch s ≡ [] = λ s l. all_left_others batch_size sets.active sets s (active_taken defers n batch_size last word i w v sets shown r s l) ∙ past s l in
      let e = rounds_model r.slots r.rounds (size a.sets) r.settled r.flushed a.sets le first.shown (all_left_active batch_size sets) others r.all_flush r.none_open (omega arith) in
      let flushed = flush_rounds defers n batch_size last word i r.slots r.rounds r.settled r.flushed a.sets le first.shown r.all_flush in
      at (ltb s r.slots) refl e flushed others
    where
      end : Sets
      end = (all_left batch_size sets.active sets).sets

      at : (y : Bool) → ltb s r.slots ≡ y → emptied_times batch_size r.slots r.rounds end ≡ emptied_all batch_size (size end) end
          → Comes defers n batch_size last word i r.settled r.flushed end (emptied_times batch_size r.slots r.rounds end)
          → ((s : ℕ) → r.slots ≤ s → end.open_batch s ≡ []) → (emptied_all batch_size (size end) end).sets.open_batch s ≡ []
      at true q e flushed others =
          ap (λ (x : After). x.sets.open_batch s) (sym e)
          ∙ open_none defers n batch_size last word i s r.flushed (emptied_times batch_size r.slots r.rounds end).sets flushed.shown
          (let k = ltb-true s r.slots q in let le = slots_fit defers n batch_size last word i w v sets shown r in omega (arith, k, le))
          (word_found r.flushed.memory (name.Slot s BATCH) 0 (r.none_open s (ltb-true s r.slots q)))
      at false q e flushed others =
          let k = ltb-false s r.slots q in
          ap (λ (x : After). x.sets.open_batch s) (sym e) ∙ times_others batch_size r.slots r.rounds end s k ∙ others s k
