-- Retiring one number after another: what each one comes to, and the bound at the beginning.
use Rattle.std.specs.Prelude.{if◌then◌else◌, ◌==◌}
use Rattle.std.proofs.Common.{◌≡◌, ℕ, zero, suc, ◌+◌, ◌<◌, ◌≤◌, Bool, true, false, eqb, ltb, List, [], ◌∷◌, ◌++◌, length, refl, ap, arith, length-append, eqb-true}
use Rattle.std.proofs.lemmas.Bool.{eqb-false, ltb-true, ltb-false}
use Rattle.seize.specs.WaitingSets.{Sets, with_open, closing, quietly, further_of_all, is_full, is_enough, opened, size, retired_all, flushed, given}
use Rattle.seize_moves.specs.Waiting.Held.{count}
use Rattle.seize_moves.specs.Waiting.Changes.{kept}
use Rattle.seize_moves.proofs.Waiting.Bound.{weight_length, weight_put_length, put_once, tried, one, rounds}
use Rattle.seize_moves.proofs.Waiting.Work.{rest_given}

-- one number goes into the open batch, and then the batch is tried where it is full
pub one_retired : (batch_size bound slot x : ℕ) (xs : List ℕ) (w : Sets) →
    let v = with_open w slot (w.open_batch slot ++ x ∷ []) in
    retired_all batch_size (suc bound) slot (x ∷ xs) w
    ≡ tried (is_full batch_size slot v) (is_enough slot v) (length v.active == 0)
    (retired_all batch_size (suc bound) slot xs v)
    (rest_given batch_size bound slot (v.open_batch slot) [] xs (with_open v slot []))
    (retired_all batch_size (suc bound) slot xs (closing slot v))
one_retired batch_size bound slot x xs w = refl

-- a flush of a batch
pub flush_tried : (batch_size slot : ℕ) (w : Sets)
    → flushed batch_size slot w
    ≡ (if length (w.open_batch slot) == 0 then quietly w else
    tried true (is_enough slot w) (length w.active == 0) (quietly w) (given batch_size slot (w.open_batch slot) (with_open w slot [])) (quietly (closing slot w)))
flush_tried batch_size slot w = refl

-- the bound is not met

open_counted : (w : Sets) (slot n : ℕ) → slot < n → length (w.open_batch slot) ≤ length (opened n w)
open_counted w slot zero l = absurd (omega (arith, l))
open_counted w slot (suc n) l = at (eqb slot n) refl (open_counted w slot n) (length-append (opened n w) (w.open_batch n))
  where
    at : (b : Bool) → eqb slot n ≡ b → (slot < n → length (w.open_batch slot) ≤ length (opened n w))
        → length (opened n w ++ w.open_batch n) ≡ length (opened n w) + length (w.open_batch n) → length (w.open_batch slot) ≤ length (opened n w ++ w.open_batch n)
    at true e ih a = let k = ap (λ (u : ℕ). length (w.open_batch u)) (eqb-true slot n e) in omega (arith, k, a)
    at false e ih a = let ne = eqb-false slot n e in let k = ih (omega (arith, l, ne)) in omega (arith, k, a)

-- a slot that was never used has nothing in its open batch
open_size : (w : Sets) (slot : ℕ) → ((s : ℕ) → w.slots ≤ s → w.open_batch s ≡ []) → length (w.open_batch slot) + length w.further ≤ size w
open_size w slot h = at (ltb slot w.slots) refl
  where
    at : (b : Bool) → ltb slot w.slots ≡ b → length (w.open_batch slot) + length w.further ≤ size w
    at true e = let a = open_counted w slot w.slots (ltb-true slot w.slots e) in omega (arith, a)
    at false e = let a = ap (λ (l : List ℕ). length l) (h slot (ltb-false slot w.slots e)) in omega (arith, a)

pub retired_bound : (w : Sets) (slot x : ℕ) → ((s : ℕ) → w.slots ≤ s → w.open_batch s ≡ []) → rounds (w.open_batch slot) (x ∷ []) w.further ≤ suc (size w)
retired_bound w slot x h =
    let a = open_size w slot h in let b = weight_length (w.open_batch slot) in let c = weight_put_length w.further in omega (arith, a, b, c)

pub given_bound : (w : Sets) (slot : ℕ) (numbers : List ℕ) → ((s : ℕ) → w.slots ≤ s → w.open_batch s ≡ []) → ((c : ℕ) → count c numbers ≤ 1)
    → rounds (w.open_batch slot) (further_of_all numbers w.further) (kept numbers w.further) ≤ size w
given_bound w slot numbers h d =
    let a = open_size w slot h in let b = weight_length (w.open_batch slot) in let c = weight_put_length w.further in
    let e = put_once one numbers w.further d in omega (arith, a, b, c, e)
