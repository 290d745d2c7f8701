-- The least number that is not in a list: that which is not there, and before which all are.
use Rattle.std.specs.Prelude.{◌==◌, ◌||◌, if◌then◌else◌}
use Rattle.std.proofs.Common.{◌≡◌, ℕ, zero, suc, ◌+◌, ◌≤◌, ◌<◌, Bool, true, false, List, [], ◌∷◌, length, ◌⊎◌, inl, inr, refl, sym, ap, ◌∙◌, arith, eqb-true}
use Rattle.std.proofs.lemmas.Bool.{cases_lt}
use Rattle.run_schedules.specs.Schedules.Lists.{free_from, is_among, least_free}

-- all numbers before this one are in the list
abbrev pub AllBefore : ℕ → List ℕ → Type 0
AllBefore k used = (t : ℕ) → t < k → is_among t used ≡ true

-- the list without one number
abbrev pub off : ℕ → List ℕ → List ℕ
off j [] = []
off j (x ∷ xs) = if j == x then off j xs else x ∷ off j xs

off_most : (j : ℕ) (xs : List ℕ) → length (off j xs) ≤ length xs
off_most j [] = omega arith
off_most j (x ∷ xs) = by (j == x) (off_most j xs)
  where
    by : (b : Bool) → length (off j xs) ≤ length xs → length (if b then off j xs else x ∷ off j xs) ≤ suc (length xs)
    by true ih = omega (arith, ih)
    by false ih = omega (arith, ih)

off_fewer : (j : ℕ) (xs : List ℕ) → is_among j xs ≡ true → suc (length (off j xs)) ≤ length xs
off_fewer j [] e = absurd (cc e)
off_fewer j (x ∷ xs) e = by (j == x) e (off_fewer j xs)
  where
    by : (b : Bool) → (b || is_among j xs) ≡ true → (is_among j xs ≡ true → suc (length (off j xs)) ≤ length xs) → suc (length (if b then off j xs else x ∷ off j xs)) ≤ suc (length xs)
    by true h ih = let most = off_most j xs in omega (arith, most)
    by false h ih = let less = ih h in omega (arith, less)

off_others : (j t : ℕ) (xs : List ℕ) → (t ≡ j → ⊥) → is_among t (off j xs) ≡ is_among t xs
off_others j t [] ne = refl
off_others j t (x ∷ xs) ne = by (j == x) refl (off_others j t xs ne)
  where
    not_it : (q : Bool) → (t == x) ≡ q → (j == x) ≡ true → is_among t xs ≡ (q || is_among t xs)
    not_it true e same = absurd (ne (eqb-true t x e ∙ sym (eqb-true j x same)))
    not_it false e same = refl

    by : (b : Bool) → (j == x) ≡ b → is_among t (off j xs) ≡ is_among t xs → is_among t (if b then off j xs else x ∷ off j xs) ≡ ((t == x) || is_among t xs)
    by true e ih = ih ∙ not_it (t == x) refl e
    by false e ih = ap (λ (q : Bool). (t == x) || q) ih

-- so there are as many
pub as_many : (k : ℕ) (xs : List ℕ) → AllBefore k xs → k ≤ length xs
as_many zero xs all = omega arith
as_many (suc k) xs all =
    let less = off_fewer k xs (all k (omega arith)) in
    let rest = as_many k (off k xs) (λ t l. off_others k t xs (λ e. omega (arith, e, l)) ∙ all t (omega (arith, l))) in
    omega (arith, less, rest)

module _ (used : List ℕ) where
  at_least : (k n first : ℕ) → AllBefore k used → k ≤ first + n → k ≤ free_from first n used
  at_least k zero first all l = omega (arith, l)
  at_least k (suc n) first all l = by (is_among first used) refl (at_least k n (suc first) all (omega (arith, l)))
    where
      past : is_among first used ≡ false → (first < k) ⊎ (k ≤ first) → k ≤ first
      past e (inl low) = absurd (let there = all first low in cc (there, e))
      past e (inr high) = high

      by : (b : Bool) → is_among first used ≡ b → k ≤ free_from (suc first) n used → k ≤ (if b then free_from (suc first) n used else first)
      by true e on = on
      by false e on = past e (cases_lt first k)

  at_most : (k n first : ℕ) → is_among k used ≡ false → first ≤ k → free_from first n used ≤ k
  at_most k zero first none l = l
  at_most k (suc n) first none l = by (is_among first used) refl (λ further. at_most k n (suc first) none further)
    where
      before : is_among first used ≡ true → (first < k) ⊎ (k ≤ first) → suc first ≤ k
      before e (inl low) = low
      before e (inr high) = absurd (let same : first ≡ k = omega (arith, l, high) in let there = sym (ap (λ (x : ℕ). is_among x used) same) ∙ e in cc (there, none))

      by : (b : Bool) → is_among first used ≡ b → (suc first ≤ k → free_from (suc first) n used ≤ k) → (if b then free_from (suc first) n used else first) ≤ k
      by true e on = on (before e (cases_lt first k))
      by false e on = l

  pub least_past : (k : ℕ) → AllBefore k used → k ≤ least_free used
  least_past k all = at_least k (length used) 0 all (let many = as_many k used all in omega (arith, many))

  pub least_is : (k : ℕ) → AllBefore k used → is_among k used ≡ false → least_free used ≡ k
  least_is k all none = let low = least_past k all in let high = at_most k (length used) 0 none (omega arith) in omega (arith, low, high)
