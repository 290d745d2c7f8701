-- Roots that are used: there are fewer of them than roots just where one is free.
use Rattle.std.specs.Prelude.{◌≡◌, ◌≢◌, ◌≤◌, ◌<◌, ◌+◌, ◌==◌, ◌||◌, nat_lt, ℕ, zero, suc, Bool, true, false, List, [], ◌∷◌, length, if◌then◌else◌}
use Rattle.std.proofs.Common.{refl, ap, sym, subst, ◌∙◌, arith, eqb-true}
use Rattle.std.proofs.lemmas.Bool.{eq-eqb}
use Rattle.run_schedules.specs.Runs.LifeCycle.{times}
use Rattle.run_schedules.specs.Schedules.Lists.{is_among}
use Rattle.play_scheduler.proofs.Given.RowsLeast.{as_many, off}
use Rattle.play_scheduler.proofs.Given.RemainsLists.{none_times}

-- one number is so often in a list that the list is so much longer than without it
off_times : (j : ℕ) (xs : List ℕ) → times j xs + length (off j xs) ≡ length xs
off_times j [] = refl
off_times j (x ∷ xs) = by (j == x) (off_times j xs)
  where
    by : (b : Bool) → times j xs + length (off j xs) ≡ length xs → ((if b then 1 else 0) + times j xs) + length (if b then off j xs else x ∷ off j xs) ≡ suc (length xs)
    by true ih = omega (arith, ih)
    by false ih = omega (arith, ih)

-- no number is there more often than before
off_fewer_times : (j t : ℕ) (xs : List ℕ) → times t (off j xs) ≤ times t xs
off_fewer_times j t [] = omega arith
off_fewer_times j t (x ∷ xs) = by (j == x) (off_fewer_times j t xs)
  where
    by : (b : Bool) → times t (off j xs) ≤ times t xs → times t (if b then off j xs else x ∷ off j xs) ≤ (if t == x then 1 else 0) + times t xs
    by true ih = omega (arith, ih)
    by false ih = omega (arith, ih)

-- those that are there were there, and are others
off_among : (j t : ℕ) (xs : List ℕ) → is_among t (off j xs) ≡ true → (is_among t xs ≡ true) × (t ≢ j)
off_among j t [] e = absurd (cc e)
off_among j t (x ∷ xs) e = by (j == x) refl e (off_among j t xs)
  where
    later : (q : Bool) → is_among t xs ≡ true → (q || is_among t xs) ≡ true
    later true there = refl
    later false there = there

    here : (q : Bool) → (j == x) ≡ false → (t == x) ≡ q → (q || is_among t (off j xs)) ≡ true → (is_among t (off j xs) ≡ true → (is_among t xs ≡ true) × (t ≢ j))
        → ((q || is_among t xs) ≡ true) × (t ≢ j)
    here true apart same f ih = (refl, λ one. (let a = eqb-true t x same in let it : true ≡ false = sym (eq-eqb j x (sym one ∙ a)) ∙ apart in cc it))
    here false apart same f ih = ih f

    by : (b : Bool) → (j == x) ≡ b → is_among t (if b then off j xs else x ∷ off j xs) ≡ true → (is_among t (off j xs) ≡ true → (is_among t xs ≡ true) × (t ≢ j))
        → (((t == x) || is_among t xs) ≡ true) × (t ≢ j)
    by true same f ih = let it = ih f in (later (t == x) it.0, it.1)
    by false apart f ih = here (t == x) apart refl f ih

-- numbers below this one, each once, are so many at most
few : (n : ℕ) (xs : List ℕ) → ((t : ℕ) → times t xs ≤ 1) → ((t : ℕ) → is_among t xs ≡ true → t < n) → length xs ≤ n
few zero [] once below = omega arith
few zero (x ∷ xs) once below = absurd (let l = below x (ap (λ (q : Bool). q || is_among x xs) (eq-eqb x x refl)) in omega (arith, l))
few (suc n) xs once below =
    let less = few n (off n xs) (λ t. (let a = off_fewer_times n t xs in let b = once t in omega (arith, a, b)))
    (λ t there. (let it = off_among n t xs there in let l = below t it.0 in let ne = it.1 in omega (arith, l, ne))) in
    let one = once n in
    let long = off_times n xs in
    omega (arith, less, one, long)

module _ (used : List ℕ) (roots : ℕ) where
  pub all_used : ((q : ℕ) → q < roots → is_among q used ≡ true) → nat_lt (length used) roots ≡ false
  all_used all = let many = as_many roots used all in grind (arith, many)

  pub some_free : ((r : ℕ) → times r used ≤ 1) → ((r : ℕ) → is_among r used ≡ true → r < roots) → (r : ℕ) → r < roots → is_among r used ≡ false → nat_lt (length used) roots ≡ true
  some_free once below r l free = let less = few roots (r ∷ used) once_more below_more in grind (arith, less)
    where
      once_more : (t : ℕ) → times t (r ∷ used) ≤ 1
      once_more t = by (t == r) refl
        where
          by : (q : Bool) → (t == r) ≡ q → (if q then 1 else 0) + times t used ≤ 1
          by true e = let none = ap (λ (x : ℕ). times x used) (eqb-true t r e) ∙ none_times r used free in omega (arith, none)
          by false e = let one = once t in omega (arith, one)

      below_more : (t : ℕ) → is_among t (r ∷ used) ≡ true → t < roots
      below_more t e = by (t == r) refl e
        where
          by : (q : Bool) → (t == r) ≡ q → (q || is_among t used) ≡ true → t < roots
          by true same f = subst (λ (x : ℕ). x < roots) (sym (eqb-true t r same)) l
          by false same f = below t f
