-- Tidy sets: each closed batch waits for active slots, these stand in ascending order, and a slot that was never used has no open batch.
use Rattle.std.specs.Prelude.{◌==◌, not, max}
use Rattle.std.proofs.Common.{◌≡◌, ℕ, zero, suc, ◌+◌, ◌<◌, ◌≤◌, Bool, true, false, cond, eqb, ltb, List, [], ◌∷◌, length, refl, ap, arith, eqb-true}
use Rattle.std.proofs.lemmas.Bool.{eqb-false, ltb-true, ltb-false}
use Rattle.seize.specs.WaitingSets.{Batch, Sets, at_start, with_open, closing, with_slot, without, is_done, still_closed, opened}
use Rattle.seize_moves.specs.Waiting.Held.{same, count, held, AscendFrom, AllWaitFor, Tidy}
use Rattle.seize_moves.proofs.Waiting.Counts.{count-append, none_counted}

pub tidy_start : Tidy at_start
tidy_start = record { none_further = refl; unused = λ s l. refl; waiting = tt; ascends = tt }

-- lists of slots

ascends_lower : (low low2 : ℕ) (slots : List ℕ) → low ≤ low2 → AscendFrom low2 slots → AscendFrom low slots
ascends_lower low low2 [] l h = tt
ascends_lower low low2 (s ∷ slots) l h = let a = h.0 in (omega (arith, a, l), h.1)

-- no slot below the first one is there
none_lower : (low t : ℕ) (slots : List ℕ) → t < low → AscendFrom low slots → count t slots ≡ 0
none_lower low t [] l h = refl
none_lower low t (s ∷ slots) l h =
    let a = h.0 in
    let ih = none_lower (suc s) t slots (omega (arith, a, l)) h.1 in
    at (eqb t s) refl ih
  where
    at : (y : Bool) → eqb t s ≡ y → count t slots ≡ 0 → cond y 1 0 + count t slots ≡ 0
    at true e ih = let a = h.0 in absurd (omega (arith, a, l, eqb-true t s e))
    at false e ih = omega (arith, ih)

pub without_counted : (s t : ℕ) (slots : List ℕ) → count t (without s slots) ≡ cond (eqb t s) 0 (count t slots)
without_counted s t [] = at (eqb t s)
  where
    none : ℕ
    none = 0

    at : (y : Bool) → none ≡ cond y 0 none
    at true = refl
    at false = refl
without_counted s t (x ∷ slots) = at (x == s) (eqb t s) (eqb t x) refl refl refl (without_counted s t slots)
  where
    at : (y z v : Bool) → (x == s) ≡ y → eqb t s ≡ z → eqb t x ≡ v → count t (without s slots) ≡ cond z 0 (count t slots)
        → count t (cond (not y) (x ∷ without s slots) (without s slots)) ≡ cond z 0 (cond v 1 0 + count t slots)
    at true true v e f g ih = ih
    at true false true e f g ih = absurd (eqb-false t s f (cc (eqb-true x s e, eqb-true t x g)))
    at true false false e f g ih = omega (arith, ih)
    at false true true e f g ih = absurd (eqb-false x s e (cc (eqb-true t s f, eqb-true t x g)))
    at false true false e f g ih = grind (arith, g, ih)
    at false false true e f g ih = grind (arith, g, ih)
    at false false false e f g ih = grind (arith, g, ih)

-- a slot that isn't there is taken out
without_absent : (s : ℕ) (slots : List ℕ) → count s slots ≡ 0 → without s slots ≡ slots
without_absent s [] h = refl
without_absent s (x ∷ slots) h = at (x == s) refl (without_absent s slots)
  where
    at : (y : Bool) → (x == s) ≡ y → (count s slots ≡ 0 → without s slots ≡ slots) → cond (not y) (x ∷ without s slots) (without s slots) ≡ x ∷ slots
    at true e ih = let a = eqb-true x s e in absurd (grind (arith, h, a))
    at false e ih = ap (λ (l : List ℕ). x ∷ l) (ih (grind (arith, h)))

pub without_ascends : (s low : ℕ) (slots : List ℕ) → AscendFrom low slots → AscendFrom low (without s slots)
without_ascends s low [] h = tt
without_ascends s low (x ∷ slots) h = at (x == s) (without_ascends s (suc x) slots h.1)
  where
    at : (y : Bool) → AscendFrom (suc x) (without s slots) → AscendFrom low (cond (not y) (x ∷ without s slots) (without s slots))
    at true ih = let a = h.0 in ascends_lower low (suc x) (without s slots) (omega (arith, a)) ih
    at false ih = (h.0, ih)

-- the first one goes
pub first_gone : (s : ℕ) (slots : List ℕ) → AscendFrom 0 (s ∷ slots) → without s (s ∷ slots) ≡ slots
first_gone s slots h = at (s == s) (eqb-false s s) (without_absent s slots (none_lower (suc s) s slots (omega arith) h.1))
  where
    at : (y : Bool) → (y ≡ false → s ≡ s → ⊥) → without s slots ≡ slots → cond (not y) (s ∷ without s slots) (without s slots) ≡ slots
    at true n e = e
    at false n e = absurd (n refl refl)

pub slot_counted : (s t : ℕ) (slots : List ℕ) → count t (with_slot s slots) ≡ same t s + count t slots
slot_counted s t [] = refl
slot_counted s t (x ∷ slots) = at (ltb s x) (slot_counted s t slots)
  where
    at : (y : Bool) → count t (with_slot s slots) ≡ same t s + count t slots
        → count t (cond y (s ∷ x ∷ slots) (x ∷ with_slot s slots)) ≡ same t s + (same t x + count t slots)
    at true ih = refl
    at false ih = omega (arith, ih)

pub slot_ascends : (s low : ℕ) (slots : List ℕ) → low ≤ s → count s slots ≡ 0 → AscendFrom low slots → AscendFrom low (with_slot s slots)
slot_ascends s low [] l c h = (l, tt)
slot_ascends s low (x ∷ slots) l c h = at (ltb s x) refl (slot_ascends s (suc x) slots)
  where
    at : (y : Bool) → ltb s x ≡ y → (suc x ≤ s → count s slots ≡ 0 → AscendFrom (suc x) slots → AscendFrom (suc x) (with_slot s slots))
        → AscendFrom low (cond y (s ∷ x ∷ slots) (x ∷ with_slot s slots))
    at true e ih = (l, (ltb-true s x e, h.1))
    at false e ih =
        let a = ltb-false s x e in
        let b : (s ≡ x → ⊥) = λ r. grind (arith, c, r) in
        (h.0, ih (omega (arith, a, b)) (grind (arith, c)) h.1)

-- closed batches

-- more slots are active
pub wait_on : (active active2 : List ℕ) (batches : List Batch) → ((t : ℕ) → count t active ≤ count t active2) → AllWaitFor active batches → AllWaitFor active2 batches
wait_on active active2 [] l h = tt
wait_on active active2 (b ∷ batches) l h = (h.0, (λ t. let a = h.1 t in let k = l t in omega (arith, a, k)), wait_on active active2 batches l h.2)

-- with no slot active, no batch is closed
pub none_closed : (active : List ℕ) (batches : List Batch) → active ≡ [] → AllWaitFor active batches → batches ≡ []
none_closed active [] e h = refl
none_closed active (b ∷ batches) e h =
    let z = none_counted b.waits_for (λ t. let a = h.1 t in let k = ap (count t) e in omega (arith, a, k)) in
    let k = ap (λ (l : List ℕ). length l) z in
    let a = h.0 in
    absurd (omega (arith, a, k))

-- the slot is taken out of all sets, and at most the slot is active no more
pub still_wait : (slot : ℕ) (active active2 : List ℕ) (batches : List Batch) → ((t : ℕ) → (t ≡ slot → ⊥) → count t active ≤ count t active2)
    → AllWaitFor active batches → AllWaitFor active2 (still_closed slot batches)
still_wait slot active active2 [] l h = tt
still_wait slot active active2 (b ∷ batches) l h = at (is_done slot b) refl (still_wait slot active active2 batches l h.2)
  where
    r : Batch
    r = record { retired = b.retired; waits_for = without slot b.waits_for }

    some : (k : ℕ) → (k == 0) ≡ false → 1 ≤ k
    some k e = let a = eqb-false k 0 e in omega (arith, a)

    fewer : (t : ℕ) (y : Bool) → eqb t slot ≡ y → count t (without slot b.waits_for) ≡ cond y 0 (count t b.waits_for) → count t (without slot b.waits_for) ≤ count t active2
    fewer t true e k = omega (arith, k)
    fewer t false e k = let a = h.1 t in let c = l t (eqb-false t slot e) in omega (arith, k, a, c)

    at : (y : Bool) → is_done slot b ≡ y → AllWaitFor active2 (still_closed slot batches)
        → AllWaitFor active2 (cond y (still_closed slot batches) (r ∷ still_closed slot batches))
    at true e ih = ih
    at false e ih = (some (length (without slot b.waits_for)) e, (λ t. fewer t (eqb t slot) refl (without_counted slot t b.waits_for)), ih)

-- open batches

-- how often a number stands in the lists below k
abbrev count_below : ℕ → ℕ → (ℕ → List ℕ) → ℕ
count_below n zero f = 0
count_below n (suc k) f = count_below n k f + count n (f k)

opened_counted : (n k : ℕ) (w : Sets) → count n (opened k w) ≡ count_below n k w.open_batch
opened_counted n zero w = refl
opened_counted n (suc k) w = let a = count-append n (opened k w) (w.open_batch k) in let ih = opened_counted n k w in omega (arith, a, ih)

pub opened_alike : (n k : ℕ) (w v : Sets) → w.open_batch ≡ v.open_batch → count n (opened k w) ≡ count n (opened k v)
opened_alike n k w v e = let a = opened_counted n k w in let b = opened_counted n k v in cc

-- lists with nothing in them count nothing
below_past : (n slots k : ℕ) (f : ℕ → List ℕ) → slots ≤ k → ((s : ℕ) → slots ≤ s → f s ≡ []) → count_below n k f ≡ count_below n slots f
below_past n slots zero f l h = let e : slots ≡ 0 = omega (arith, l) in cc e
below_past n slots (suc k) f l h = at (eqb slots (suc k)) refl (below_past n slots k f)
  where
    at : (y : Bool) → eqb slots (suc k) ≡ y → (slots ≤ k → ((s : ℕ) → slots ≤ s → f s ≡ []) → count_below n k f ≡ count_below n slots f)
        → count_below n (suc k) f ≡ count_below n slots f
    at true e ih = let a = eqb-true slots (suc k) e in cc a
    at false e ih =
        let a = eqb-false slots (suc k) e in
        let m : slots ≤ k = omega (arith, l, a) in
        let b = ih m h in
        let c = ap (count n) (h k m) in
        omega (arith, b, c)

abbrev pub put_at : ℕ → List ℕ → (ℕ → List ℕ) → ℕ → List ℕ
put_at slot xs f s = cond (s == slot) xs (f s)

below_same : (n k slot : ℕ) (xs : List ℕ) (f : ℕ → List ℕ) → k ≤ slot → count_below n k (put_at slot xs f) ≡ count_below n k f
below_same n zero slot xs f l = refl
below_same n (suc k) slot xs f l = at (k == slot) refl (below_same n k slot xs f (omega (arith, l)))
  where
    at : (y : Bool) → (k == slot) ≡ y → count_below n k (put_at slot xs f) ≡ count_below n k f
        → count_below n k (put_at slot xs f) + count n (cond y xs (f k)) ≡ count_below n k f + count n (f k)
    at true e ih = let a = eqb-true k slot e in absurd (omega (arith, l, a))
    at false e ih = omega (arith, ih)

below_put : (n k slot : ℕ) (xs : List ℕ) (f : ℕ → List ℕ) → slot < k → count_below n k (put_at slot xs f) + count n (f slot) ≡ count_below n k f + count n xs
below_put n zero slot xs f l = absurd (omega (arith, l))
below_put n (suc k) slot xs f l = at (k == slot) refl (below_put n k slot xs f)
  where
    at : (y : Bool) → (k == slot) ≡ y → (slot < k → count_below n k (put_at slot xs f) + count n (f slot) ≡ count_below n k f + count n xs)
        → (count_below n k (put_at slot xs f) + count n (cond y xs (f k))) + count n (f slot) ≡ (count_below n k f + count n (f k)) + count n xs
    at true e ih =
        let a = eqb-true k slot e in
        let b = below_same n k slot xs f (omega (arith, a)) in
        let c = ap (λ (u : ℕ). count n (f u)) a in
        omega (arith, b, c)
    at false e ih = let a = eqb-false k slot e in let b = ih (omega (arith, l, a)) in omega (arith, b)

-- more slots are counted as used
pub opened_past : (n k : ℕ) (w : Sets) → Tidy w → w.slots ≤ k → count n (opened k w) ≡ count n (opened w.slots w)
opened_past n k w t l =
    let a = opened_counted n k w in
    let b = opened_counted n w.slots w in
    let c = below_past n w.slots k w.open_batch l t.unused in
    omega (arith, a, b, c)

-- the slot's open batch is these numbers
pub open_held : (n slot : ℕ) (xs : List ℕ) (w : Sets) → Tidy w → held n (with_open w slot xs) + count n (w.open_batch slot) ≡ held n w + count n xs
open_held n slot xs w t =
    let k = max w.slots (slot + 1) in
    let a = opened_counted n k (with_open w slot xs) in
    let b = opened_counted n w.slots w in
    let c = below_past n w.slots k w.open_batch (omega arith) t.unused in
    let d = below_put n k slot xs w.open_batch (omega arith) in
    omega (arith, a, b, c, d)

pub open_tidy : (slot : ℕ) (xs : List ℕ) (w : Sets) → Tidy w → Tidy (with_open w slot xs)
open_tidy slot xs w t = record { none_further = t.none_further; unused = λ s l. at s l (s == slot) refl; waiting = t.waiting; ascends = t.ascends }
  where
    at : (s : ℕ) → max w.slots (slot + 1) ≤ s → (y : Bool) → (s == slot) ≡ y → cond y xs (w.open_batch s) ≡ []
    at s l true e = let a = eqb-true s slot e in absurd (omega (arith, l, a))
    at s l false e = t.unused s (omega (arith, l))

-- a batch is closed
pub closing_held : (n slot : ℕ) (w : Sets) → Tidy w → held n (closing slot w) ≡ held n w
closing_held n slot w t =
    let a = open_held n slot [] w t in
    let b = opened_alike n (max w.slots (slot + 1)) (closing slot w) (with_open w slot []) refl in
    omega (arith, a, b)

pub closing_tidy : (slot : ℕ) (w : Sets) → 1 ≤ length w.active → Tidy w → Tidy (closing slot w)
closing_tidy slot w l t =
    let o = open_tidy slot [] w t in
    record { none_further = t.none_further; unused = o.unused; waiting = (l, (λ s. omega arith), t.waiting); ascends = t.ascends }

-- what stands in an open batch is held

below_counts : (n k s : ℕ) (f : ℕ → List ℕ) → s < k → count n (f s) ≤ count_below n k f
below_counts n zero s f l = absurd (omega (arith, l))
below_counts n (suc k) s f l = at (eqb s k) refl (below_counts n k s f)
  where
    at : (y : Bool) → eqb s k ≡ y → (s < k → count n (f s) ≤ count_below n k f) → count n (f s) ≤ count_below n k f + count n (f k)
    at true e ih = let a = ap (λ (u : ℕ). count n (f u)) (eqb-true s k e) in omega (arith, a)
    at false e ih = let a = eqb-false s k e in let b = ih (omega (arith, l, a)) in omega (arith, b)

pub open_counts : (n s : ℕ) (w : Sets) → Tidy w → count n (w.open_batch s) ≤ held n w
open_counts n s w t = at (ltb s w.slots) refl
  where
    at : (y : Bool) → ltb s w.slots ≡ y → count n (w.open_batch s) ≤ held n w
    at true e = let a = below_counts n w.slots s w.open_batch (ltb-true s w.slots e) in let b = opened_counted n w.slots w in omega (arith, a, b)
    at false e = let a = ap (count n) (t.unused s (ltb-false s w.slots e)) in omega (arith, a)
