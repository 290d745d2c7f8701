-- Numbers that rise, and are the same ones, are the same one by one.
use Rattle.std.specs.Prelude.{◌≡◌, ℕ, zero, suc, ◌+◌, ◌<◌, ◌≤◌}
use Rattle.std.proofs.Common.{ap, sym, ◌∙◌, arith, inl, inr}
use Rattle.std.proofs.lemmas.Bool.{cases_lt}

-- a rising list of numbers below a bound, as many as the bound, has each at its place
module _ (many : ℕ) (at : (n : ℕ) → n < many → ℕ) (rising : (n o : ℕ) (l : n < many) (l2 : o < many) → n < o → at n l < at o l2) (within : (n : ℕ) (l : n < many) → at n l < many) where
  at_least : (n : ℕ) (l : n < many) → n ≤ at n l
  at_least zero l = omega arith
  at_least (suc n) l =
      let l2 : n < many = omega (arith, l) in
      let before = at_least n l2 in
      let up = rising n (suc n) l2 l (omega arith) in omega (arith, before, up)

  -- from the last one down
  at_most : (left n : ℕ) (l : n < many) → suc (n + left) ≡ many → suc (at n l + left) ≤ many
  at_most zero n l is = let w = within n l in omega (arith, w)
  at_most (suc left) n l is =
      let l2 : suc n < many = omega (arith, is) in
      let next = at_most left (suc n) l2 (omega (arith, is)) in
      let up = rising n (suc n) l l2 (omega arith) in
      omega (arith, next, up)

  pub each_its_own : (n left : ℕ) (l : n < many) → suc (n + left) ≡ many → at n l ≡ n
  each_its_own n left l is = (let low = at_least n l in let high = at_most left n l is in omega (arith, low, high, is))

-- Two rising lists, as long, of which each number of the one is one of the other.
module _ (f g : ℕ → ℕ) (many : ℕ) (f_rises : (n o : ℕ) → n < o → o < many → f n < f o) (g_rises : (n o : ℕ) → n < o → o < many → g n < g o)
    (among : (n : ℕ) → n < many → (x : ℕ) × (x < many) × (f x ≡ g n)) where
  no_later : (x y : ℕ) → x < many → y ≤ x → f y ≤ f x
  no_later x y l le = elim (cases_lt y x) as (λ _. f y ≤ f x) [
    | inl less ↦ (let r = f_rises y x less l in omega (arith, r))
    | inr same ↦ (let e : y ≡ x = omega (arith, le, same) in let is = ap f e in omega (arith, is))
  ]

  places_rise : (n o : ℕ) (l : n < many) (l2 : o < many) → n < o → (among n l).0 < (among o l2).0
  places_rise n o l l2 less = elim (cases_lt (among n l).0 (among o l2).0) as (λ _. (among n l).0 < (among o l2).0) [
    | inl up ↦ up
    | inr down ↦ absurd
        (let back = no_later (among n l).0 (among o l2).0 (among n l).1 down in
        let first = (among n l).2 in
        let second = (among o l2).2 in
        let up = g_rises n o less l2 in omega (arith, back, first, second, up))
  ]

  pub same_numbers : (n left : ℕ) (l : n < many) → suc (n + left) ≡ many → g n ≡ f n
  same_numbers n left l is = sym (among n l).2 ∙ ap f (each_its_own many (λ n l. (among n l).0) places_rise (λ n l. (among n l).1) n left l is)
