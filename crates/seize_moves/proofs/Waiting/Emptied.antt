-- Once everything is reclaimed, no batch is there, whatever waited behind others: each round of flushes takes something away.
use Rattle.std.specs.Prelude.{◌==◌}
use Rattle.std.proofs.Common.{◌≡◌, ℕ, zero, suc, ◌+◌, ◌≤◌, Bool, true, false, cond, List, [], length, refl, ap, arith, eqb-true, ◌∙◌}
use Rattle.std.proofs.lemmas.Bool.{eqb-false}
use Rattle.std.proofs.lemmas.List.{nil_from_length}
use Rattle.seize.specs.WaitingSets.{Sets, quietly, then_also, opened, size, all_left, emptied, emptied_all, all_reclaimed}
use Rattle.seize_moves.specs.Waiting.Held.{count, held_closed, held, Once, Tidy, bare, all_held}
use Rattle.seize_moves.proofs.Waiting.Bound.{weight_count}
use Rattle.seize_moves.proofs.Waiting.Flushes.{len_below, opened_len, much, size_much, flushed_falls, emptied_active, emptied_slots, emptied_others}
use Rattle.seize_moves.proofs.Waiting.Tidy.{none_closed}
use Rattle.seize_moves.proofs.Waiting.Held.{open_all_counts, once_after}
use Rattle.seize_moves.proofs.Waiting.Kept.{all_left_keeps, emptied_keeps, all_reclaimed_keeps}

-- no number stands twice in a slot's open batch, and behind others
open_once : (slot : ℕ) (w : Sets) → Tidy (bare w) → ((n : ℕ) → all_held n w ≤ 1) → Once (w.open_batch slot) [] w.further
open_once slot w t once c =
    let a = open_all_counts c slot w t in
    let b = weight_count c (w.open_batch slot) in
    let d = once c in
    omega (arith, a, b, d)

kept_once : (batch_size k : ℕ) (w : Sets) → Tidy (bare w) → ((n : ℕ) → all_held n w ≤ 1) → (n : ℕ) → all_held n (emptied batch_size k w).sets ≤ 1
kept_once batch_size k w t once =
    once_after w [] w.active (emptied batch_size k w) (emptied_keeps batch_size k w t once) (λ n. let a = once n in omega (arith, a))

-- all that stood in open batches is away
round_falls : (batch_size s k : ℕ) (w : Sets) → s ≤ k → Tidy (bare w) → ((n : ℕ) → all_held n w ≤ 1) → w.active ≡ []
    → much k (emptied batch_size s w).sets + len_below s w.open_batch ≤ much k w
round_falls batch_size zero k w l t once e = omega arith
round_falls batch_size (suc s) k w l t once e =
    let v = (emptied batch_size s w).sets in
    let ih = round_falls batch_size s k w (omega (arith, l)) t once e in
    let tv = (emptied_keeps batch_size s w t once).tidy in
    let one = flushed_falls batch_size s k v (omega (arith, l)) (emptied_active batch_size s w ∙ e) (open_once s v tv (kept_once batch_size s w t once)) in
    let alike = ap (λ (p : List ℕ). length p) (emptied_others batch_size s w s (omega arith)) in
    omega (arith, ih, one, alike)

-- so fewer numbers are in the sets
pub size_falls : (batch_size : ℕ) (w : Sets) → Tidy (bare w) → ((n : ℕ) → all_held n w ≤ 1) → w.active ≡ [] → size (emptied batch_size w.slots w).sets + length (opened w.slots w) ≤ size w
size_falls batch_size w t once e =
    let v = (emptied batch_size w.slots w).sets in
    let a = round_falls batch_size w.slots w.slots w (omega arith) t once e in
    let b = size_much w.slots w (omega arith) t.unused in
    let c = size_much w.slots v (emptied_slots batch_size w.slots w.slots w (omega arith) (omega arith)) (emptied_keeps batch_size w.slots w t once).tidy.unused in
    let d = opened_len w.slots w in
    omega (arith, a, b, c, d)

all_emptied : (batch_size bound : ℕ) (w : Sets) → Tidy (bare w) → ((n : ℕ) → all_held n w ≤ 1) → w.active ≡ [] → size w ≤ bound
    → let v = (emptied_all batch_size bound w).sets in opened v.slots v ≡ []
all_emptied batch_size zero w t once e l = nil_from_length (opened w.slots w) (omega (arith, l))
all_emptied batch_size (suc bound) w t once e l =
    at (length (opened w.slots w) == 0) refl
    (λ (less : size (emptied batch_size w.slots w).sets ≤ bound). all_emptied batch_size bound (emptied batch_size w.slots w).sets (emptied_keeps batch_size w.slots w t once).tidy (kept_once batch_size w.slots w t once)
    (emptied_active batch_size w.slots w ∙ e) less)
  where
    v : Sets
    v = (emptied batch_size w.slots w).sets

    at : (y : Bool) → (length (opened w.slots w) == 0) ≡ y
        → (size v ≤ bound → let z = (emptied_all batch_size bound v).sets in opened z.slots z ≡ [])
        → let z = (cond y (quietly w) (then_also (emptied batch_size w.slots w) (emptied_all batch_size bound))).sets in opened z.slots z ≡ []
    at true f rest = nil_from_length (opened w.slots w) (eqb-true (length (opened w.slots w)) 0 f)
    at false f rest =
        let a = eqb-false (length (opened w.slots w)) 0 f in
        let b = size_falls batch_size w t once e in
        rest (omega (arith, a, b, l))

-- after all is reclaimed, no batch is there
pub all_reclaimed_empty : (batch_size : ℕ) (w : Sets) → Tidy (bare w) → ((n : ℕ) → all_held n w ≤ 1) → (n : ℕ) → held n (all_reclaimed batch_size w).sets ≡ 0
all_reclaimed_empty batch_size w t once n =
    let first = all_left_keeps batch_size w.active w t once refl in
    let v = (all_left batch_size w.active w).sets in
    let last = all_reclaimed_keeps batch_size w t once in
    let end = (all_reclaimed batch_size w).sets in
    let a = ap (count n) (all_emptied batch_size (size v) v first.tidy
    (once_after w [] [] (all_left batch_size w.active w) first (λ m. let b = once m in omega (arith, b))) first.active_now (omega arith)) in
    let b = ap (held_closed n) (none_closed end.active end.closed last.active_now last.tidy.waiting) in
    omega (arith, a, b)
