-- The bound of `retired_all` is never met where no number stands twice: each batch that is reclaimed at once takes a number away.
use Rattle.std.specs.Prelude.{if◌then◌else◌, ◌==◌, ◌||◌, not, filter, map}
use Rattle.std.proofs.Common.{◌≡◌, ℕ, suc, ◌+◌, ◌≤◌, Bool, true, false, cond, List, [], ◌∷◌, ◌++◌, length, refl, ap, arith, eqb-true, sym}
use Rattle.seize.specs.WaitingSets.{Further, Sets, After, with_open, further_of, further_of_all, is_one_of}
use Rattle.seize_moves.specs.Waiting.Held.{same, count, weight, weight_put, Once}
use Rattle.seize_moves.specs.Waiting.Changes.{kept}
use Rattle.seize_moves.proofs.Waiting.Behind.{kept_nil}
use Rattle.seize_moves.proofs.Waiting.Counts.{not_one}

weight-append : (f : ℕ → ℕ) (xs ys : List ℕ) → weight f (xs ++ ys) ≡ weight f xs + weight f ys
weight-append f [] ys = omega arith
weight-append f (x ∷ xs) ys = let ih = weight-append f xs ys in omega (arith, ih)

-- what is put behind a number, once these numbers are given back
pub further_kept : (t : ℕ) (numbers : List ℕ) (further : List Further) → further_of t (kept numbers further) ≡ cond (is_one_of t numbers) [] (further_of t further)
further_kept t numbers [] = at (is_one_of t numbers)
  where
    none : List ℕ
    none = []

    at : (b : Bool) → none ≡ cond b [] none
    at true = refl
    at false = refl
further_kept t numbers (x ∷ further) =
    at (x.behind == t) (is_one_of x.behind numbers) (is_one_of t numbers) refl (λ e. ap (λ (u : ℕ). is_one_of u numbers) (eqb-true x.behind t e)) (further_kept t numbers further)
  where
    at : (z q y : Bool) → (x.behind == t) ≡ z → (z ≡ true → q ≡ y) → further_of t (kept numbers further) ≡ cond y [] (further_of t further)
        → further_of t (cond (not q) (x ∷ kept numbers further) (kept numbers further))
        ≡ cond y [] (map (λ (f : Further). f.number) (cond z (x ∷ filter (λ (f : Further). f.behind == t) further) (filter (λ (f : Further). f.behind == t) further)))
    at true true true e f ih = ih
    at true false false e f ih = grind (arith, e, ih)
    at true true false e f ih = absurd (cc (f refl))
    at true false true e f ih = absurd (cc (f refl))
    at false true true e f ih = ih
    at false true false e f ih = ih
    at false false true e f ih = grind (arith, e, ih)
    at false false false e f ih = grind (arith, e, ih)

-- what stands behind one number more
kept_one : (f : ℕ → ℕ) (n : ℕ) (numbers : List ℕ) (further : List Further) → is_one_of n numbers ≡ false
    → weight f (further_of n further) + weight_put f (kept (n ∷ numbers) further) ≡ weight_put f (kept numbers further)
kept_one f n numbers [] e = refl
kept_one f n numbers (x ∷ further) e = at (x.behind == n) (is_one_of x.behind numbers) (λ t. rw (sym (eqb-true x.behind n t)) at e) (kept_one f n numbers further e)
  where
    at : (b c : Bool) → (b ≡ true → c ≡ false)
        → weight f (further_of n further) + weight_put f (kept (n ∷ numbers) further) ≡ weight_put f (kept numbers further)
        → weight f (map (λ (g : Further). g.number) (cond b (x ∷ filter (λ (g : Further). g.behind == n) further) (filter (λ (g : Further). g.behind == n) further)))
        + weight_put f (cond (not (b || c)) (x ∷ kept (n ∷ numbers) further) (kept (n ∷ numbers) further))
        ≡ weight_put f (cond (not c) (x ∷ kept numbers further) (kept numbers further))
    at true true h ih = absurd (cc (h refl))
    at true false h ih = omega (arith, ih)
    at false true h ih = ih
    at false false h ih = omega (arith, ih)

-- what numbers put, and what stays behind others, is all that was put
pub put_once : (f : ℕ → ℕ) (numbers : List ℕ) (further : List Further) → ((c : ℕ) → count c numbers ≤ 1)
    → weight f (further_of_all numbers further) + weight_put f (kept numbers further) ≡ weight_put f further
put_once f [] further h = let a = ap (weight_put f) (kept_nil further) in omega (arith, a)
put_once f (n ∷ numbers) further h =
    let one = kept_one f n numbers further (not_one n numbers (grind (arith, h n))) in
    let ih = put_once f numbers further (λ c. grind (arith, h c)) in
    let a = weight-append f (further_of n further) (further_of_all numbers further) in
    omega (arith, one, ih, a)

abbrev pub one : ℕ → ℕ
one x = 1

-- how often a batch can be reclaimed at once
abbrev pub rounds : List ℕ → List ℕ → List Further → ℕ
rounds opened xs further = weight one opened + weight one xs + weight_put one further

pub weight_count : (c : ℕ) (xs : List ℕ) → weight (same c) xs ≡ count c xs
weight_count c [] = refl
weight_count c (x ∷ xs) = let ih = weight_count c xs in omega (arith, ih)

pub weight_length : (xs : List ℕ) → weight one xs ≡ length xs
weight_length [] = refl
weight_length (x ∷ xs) = let ih = weight_length xs in omega (arith, ih)

pub weight_put_length : (xs : List Further) → weight_put one xs ≡ length xs
weight_put_length [] = refl
weight_put_length (x ∷ xs) = let ih = weight_put_length xs in omega (arith, ih)

-- a number goes into the open batch
appended_weight : (f : ℕ → ℕ) (opened xs : List ℕ) (x : ℕ) → weight f (opened ++ x ∷ []) + weight f xs ≡ weight f opened + weight f (x ∷ xs)
appended_weight f opened xs x = let a = weight-append f opened (x ∷ []) in omega (arith, a)

-- the open batch is reclaimed, and what it put goes before the rest
pub given_weight : (f : ℕ → ℕ) (opened xs : List ℕ) (further : List Further) → ((c : ℕ) → count c opened ≤ 1)
    → weight f (further_of_all opened further ++ xs) + weight_put f (kept opened further) ≡ weight f xs + weight_put f further
given_weight f opened xs further h =
    let a = weight-append f (further_of_all opened further) xs in
    let b = put_once f opened further h in
    omega (arith, a, b)

pub once_counted : (opened xs : List ℕ) (further : List Further) → Once opened xs further → (c : ℕ) → count c opened ≤ 1
once_counted opened xs further h c = let a = weight_count c opened in omega (arith, a, h c)

pub once_appended : (opened xs : List ℕ) (x : ℕ) (further : List Further) → Once opened (x ∷ xs) further → Once (opened ++ x ∷ []) xs further
once_appended opened xs x further h c = let a = appended_weight (same c) opened xs x in omega (arith, a, h c)

pub once_closed : (opened xs : List ℕ) (further : List Further) → Once opened xs further → Once [] xs further
once_closed opened xs further h c = omega (arith, h c)

pub once_given : (opened xs : List ℕ) (further : List Further) → Once opened xs further → Once [] (further_of_all opened further ++ xs) (kept opened further)
once_given opened xs further h c = let a = given_weight (same c) opened xs further (once_counted opened xs further h) in omega (arith, a, h c)

-- a batch that has a number in it is reclaimed
pub rounds_given : (opened xs : List ℕ) (further : List Further) (x n : ℕ) → Once (opened ++ x ∷ []) xs further → rounds opened (x ∷ xs) further ≤ suc n
    → rounds [] (further_of_all (opened ++ x ∷ []) further ++ xs) (kept (opened ++ x ∷ []) further) ≤ n
rounds_given opened xs further x n h l =
    let a = given_weight one (opened ++ x ∷ []) xs further (once_counted (opened ++ x ∷ []) xs further h) in
    let b = appended_weight one opened xs x in
    omega (arith, a, b, l)

pub rounds_appended : (opened xs : List ℕ) (further : List Further) (x n : ℕ) → rounds opened (x ∷ xs) further ≤ n → rounds (opened ++ x ∷ []) xs further ≤ n
rounds_appended opened xs further x n l = let a = appended_weight one opened xs x in omega (arith, a, l)

-- what the open batch is, right after it was set
pub set_opened : (w : Sets) (slot : ℕ) (xs : List ℕ) → (with_open w slot xs).open_batch slot ≡ xs
set_opened w slot xs = grind arith

-- what a try comes to, by its tests
abbrev pub tried : Bool → Bool → Bool → After → After → After → After
tried full enough none later back closed = if not full then later else (if not enough then later else (if none then back else closed))

-- something is reclaimed, and what the rest comes to is this
abbrev pub before_rest : After → After → After
before_rest a b = record { sets = b.sets; reclaimed = a.reclaimed ++ b.reclaimed }
