-- What is retired, and what is given back with it, keeps every number, also those behind others: each is reclaimed, once, or stands in a batch, or behind a
-- number that was not reclaimed.
use Rattle.std.specs.Prelude.{◌==◌}
use Rattle.std.proofs.Common.{◌≡◌, ℕ, zero, suc, ◌+◌, ◌≤◌, Bool, true, false, List, [], ◌∷◌, ◌++◌, length, refl, ap, sym, ◌∙◌, arith, subst}
use Rattle.std.proofs.lemmas.Bool.{eqb-false}
use Rattle.seize.specs.WaitingSets.{Batch, Sets, After, with_open, closing, giving, then_also, further_of_all, is_full, is_enough, size, retired_all, given, given_all}
use Rattle.seize_moves.specs.Waiting.Held.{same, count, weight_put, held, Tidy, bare, all_held}
use Rattle.seize_moves.specs.Waiting.Changes.{kept, Keeps}
use Rattle.seize_moves.proofs.Waiting.Behind.{kept_nil, kept-append}
use Rattle.seize_moves.proofs.Waiting.Bound.{weight_count, put_once, given_weight, tried, before_rest}
use Rattle.seize_moves.proofs.Waiting.Counts.{count-append}
use Rattle.seize_moves.proofs.Waiting.Tidy.{opened_alike, open_held, open_tidy, closing_held, closing_tidy, open_counts}

-- no number stands twice
pub once_after : (w : Sets) (more active : List ℕ) (a : After) → Keeps w more active a → ((n : ℕ) → all_held n w + count n more ≤ 1) → (n : ℕ) → all_held n a.sets ≤ 1
once_after w more active a k once n = let b = k.balance n in let c = once n in omega (arith, b, c)

pub bare_held : (n : ℕ) (w : Sets) → held n (bare w) ≡ held n w
bare_held n w = let a = opened_alike n w.slots (bare w) w refl in omega (arith, a)

-- the slot's open batch is these numbers
pub open_all_held : (n slot : ℕ) (xs : List ℕ) (w : Sets) → Tidy (bare w) → all_held n (with_open w slot xs) + count n (w.open_batch slot) ≡ all_held n w + count n xs
open_all_held n slot xs w t =
    let a = open_held n slot xs (bare w) t in
    let b = bare_held n w in
    let c = bare_held n (with_open w slot xs) in
    omega (arith, a, b, c)

pub closing_all_held : (n slot : ℕ) (w : Sets) → Tidy (bare w) → all_held n (closing slot w) ≡ all_held n w
closing_all_held n slot w t =
    let a = closing_held n slot (bare w) t in
    let b = bare_held n w in
    let c = bare_held n (closing slot w) in
    omega (arith, a, b, c)

pub open_all_counts : (n slot : ℕ) (w : Sets) → Tidy (bare w) → count n (w.open_batch slot) + weight_put (same n) w.further ≤ all_held n w
open_all_counts n slot w t = let a = open_counts n slot (bare w) t in let b = bare_held n w in omega (arith, a, b)

-- numbers are given back

-- these numbers are given back, and then the sets are these
abbrev pub reclaiming : List ℕ → Sets → After
reclaiming numbers w = record { sets = w; reclaimed = numbers }

-- the rest follows
before : (w v : Sets) (more rest active numbers : List ℕ) (a : After) → ((n : ℕ) → count n numbers + all_held n v + count n rest ≡ all_held n w + count n more)
    → v.further ≡ kept numbers w.further
    → Keeps v rest active a → Keeps w more active (before_rest (reclaiming numbers v) a)
before w v more rest active numbers a h g k = record {
  tidy = k.tidy;
  active_now = k.active_now;
  balance = λ n. let b = count-append n numbers a.reclaimed in let c = k.balance n in let d = h n in omega (arith, b, c, d);
  behind = k.behind ∙ ap (kept a.reclaimed) g ∙ kept-append numbers a.reclaimed w.further;
}

-- two changes, one after another
pub then_keeps : (w : Sets) (first more active active2 : List ℕ) (a : After) (f : Sets → After) → Keeps w first active a → Keeps a.sets more active2 (f a.sets)
    → Keeps w (first ++ more) active2 (then_also a f)
then_keeps w first more active active2 a f k l = record {
  tidy = l.tidy;
  active_now = l.active_now;
  balance = λ n.
      let b = k.balance n in
      let c = l.balance n in
      let d = count-append n first more in
      let e = count-append n a.reclaimed (f a.sets).reclaimed in
      omega (arith, b, c, d, e);
  behind = l.behind ∙ ap (kept (f a.sets).reclaimed) k.behind ∙ kept-append a.reclaimed (f a.sets).reclaimed w.further;
}

pub nothing_keeps : (w : Sets) → Tidy (bare w) → Keeps w [] w.active (record { sets = w; reclaimed = [] })
nothing_keeps w t = record { tidy = t; active_now = refl; balance = λ n. omega arith; behind = sym (kept_nil w.further) }

-- numbers are retired, one after another

pub tried_keeps : (w : Sets) (more : List ℕ) (full enough none : Bool) (p q r : After) → Keeps w more w.active p → Keeps w more w.active q
    → (none ≡ false → Keeps w more w.active r) → Keeps w more w.active (tried full enough none p q r)
tried_keeps w more false enough none p q r a b c = a
tried_keeps w more true false none p q r a b c = a
tried_keeps w more true true true p q r a b c = b
tried_keeps w more true true false p q r a b c = c refl

pub some_active : (active : List ℕ) → (length active == 0) ≡ false → 1 ≤ length active
some_active active e = let a = eqb-false (length active) 0 e in omega (arith, a)

-- a number goes into the open batch
appended_held : (n slot x : ℕ) (xs : List ℕ) (w : Sets) → Tidy (bare w) → all_held n (with_open w slot (w.open_batch slot ++ x ∷ xs)) ≡ all_held n w + count n (x ∷ xs)
appended_held n slot x xs w t =
    let a = open_all_held n slot (w.open_batch slot ++ x ∷ xs) w t in
    let b = count-append n (w.open_batch slot) (x ∷ xs) in
    omega (arith, a, b)

-- the open batch is reclaimed, and what it put goes before the rest
back_held : (n slot : ℕ) (xs : List ℕ) (v : Sets) → Tidy (bare v) → ((c : ℕ) → count c (v.open_batch slot) ≤ 1)
    → count n (v.open_batch slot) + all_held n (giving (v.open_batch slot) (with_open v slot [])).sets + count n (further_of_all (v.open_batch slot) v.further ++ xs) ≡ all_held n v + count n xs
back_held n slot xs v t h =
    let numbers = v.open_batch slot in
    let u = with_open v slot [] in
    let a = open_all_held n slot [] v t in
    let b = given_weight (same n) numbers xs v.further h in
    let c = weight_count n (further_of_all numbers v.further ++ xs) in
    let d = weight_count n xs in
    let e = opened_alike n u.slots (giving numbers u).sets u refl in
    omega (arith, a, b, c, d, e)

pub retired_all_keeps : (batch_size bound slot : ℕ) (xs : List ℕ) (w : Sets) → Tidy (bare w) → ((n : ℕ) → all_held n w + count n xs ≤ 1)
    → Keeps w xs w.active (retired_all batch_size bound slot xs w)
retired_all_keeps batch_size bound slot [] w t once = nothing_keeps w t
retired_all_keeps batch_size zero slot (x ∷ xs) w t once = record {
  tidy = open_tidy slot (w.open_batch slot ++ x ∷ xs) (bare w) t;
  active_now = refl;
  balance = λ n. let a = appended_held n slot x xs w t in omega (arith, a);
  behind = sym (kept_nil w.further);
}
retired_all_keeps batch_size (suc bound) slot (x ∷ xs) w t once =
    let numbers = v.open_batch slot in
    let puts = further_of_all numbers v.further ++ xs in
    tried_keeps w (x ∷ xs) (is_full batch_size slot v) (is_enough slot v) (length v.active == 0) _ _ _
    (before w v (x ∷ xs) xs w.active [] _ (λ n. let a = appended_held n slot x [] w t in omega (arith, a)) (sym (kept_nil w.further))
    (retired_all_keeps batch_size (suc bound) slot xs v tv once_v))
    (before w g (x ∷ xs) puts w.active numbers _
    (λ n. let a = appended_held n slot x [] w t in let b = back_held n slot xs v tv few in omega (arith, a, b))
    refl
    (retired_all_keeps batch_size bound slot puts g (open_tidy slot [] (bare v) tv) (λ n. let b = back_held n slot xs v tv few in let c = once_v n in omega (arith, b, c))))
    (λ e. before w (closing slot v) (x ∷ xs) xs w.active [] _
    (λ n. let a = appended_held n slot x [] w t in let b = closing_all_held n slot v tv in omega (arith, a, b))
    (sym (kept_nil w.further))
    (retired_all_keeps batch_size (suc bound) slot xs (closing slot v) (closing_tidy slot (bare v) (some_active v.active e) tv)
    (λ n. let a = closing_all_held n slot v tv in let c = once_v n in omega (arith, a, c))))
  where
    v : Sets
    v = with_open w slot (w.open_batch slot ++ x ∷ [])

    tv : Tidy (bare v)
    tv = open_tidy slot (w.open_batch slot ++ x ∷ []) (bare w) t

    g : Sets
    g = (giving (v.open_batch slot) (with_open v slot [])).sets

    once_v : (n : ℕ) → all_held n v + count n xs ≤ 1
    once_v n = let a = appended_held n slot x [] w t in let b = once n in omega (arith, a, b)

    few : (n : ℕ) → count n (v.open_batch slot) ≤ 1
    few n = let a = open_all_counts n slot v tv in let b = once_v n in omega (arith, a, b)

-- numbers are given back, and then what they put is retired
pub given_keeps : (batch_size slot : ℕ) (numbers : List ℕ) (w : Sets) → Tidy (bare w) → ((n : ℕ) → all_held n w + count n numbers ≤ 1)
    → Keeps w numbers w.active (given batch_size slot numbers w)
given_keeps batch_size slot numbers w t once =
    before w (giving numbers w).sets numbers puts w.active numbers _ balance refl
    (retired_all_keeps batch_size (size w) slot puts (giving numbers w).sets t (λ n. let a = balance n in let b = once n in omega (arith, a, b)))
  where
    puts : List ℕ
    puts = further_of_all numbers w.further

    balance : (n : ℕ) → count n numbers + all_held n (giving numbers w).sets + count n puts ≡ all_held n w + count n numbers
    balance n =
        let a = put_once (same n) numbers w.further (λ c. let b = once c in omega (arith, b)) in
        let b = weight_count n puts in
        let c = opened_alike n w.slots (giving numbers w).sets w refl in
        omega (arith, a, b, c)

-- the numbers of these batches, in order
abbrev pub all_in : List Batch → List ℕ
all_in [] = []
all_in (b ∷ batches) = b.retired ++ all_in batches

pub given_all_keeps : (batch_size slot : ℕ) (batches : List Batch) (w : Sets) → Tidy (bare w) → ((n : ℕ) → all_held n w + count n (all_in batches) ≤ 1)
    → Keeps w (all_in batches) w.active (given_all batch_size slot batches w)
given_all_keeps batch_size slot [] w t once = nothing_keeps w t
given_all_keeps batch_size slot (b ∷ batches) w t once =
    then_keeps w b.retired (all_in batches) w.active w.active (given batch_size slot b.retired w) (given_all batch_size slot batches) first
    (subst (λ (l : List ℕ). Keeps v (all_in batches) l (given_all batch_size slot batches v)) first.active_now
    (given_all_keeps batch_size slot batches v first.tidy (λ n. let a = first.balance n in let c = both n in omega (arith, a, c))))
  where
    v : Sets
    v = (given batch_size slot b.retired w).sets

    both : (n : ℕ) → all_held n w + count n b.retired + count n (all_in batches) ≤ 1
    both n = let a = once n in let c = count-append n b.retired (all_in batches) in omega (arith, a, c)

    first : Keeps w b.retired w.active (given batch_size slot b.retired w)
    first = given_keeps batch_size slot b.retired w t (λ n. let c = both n in omega (arith, c))
