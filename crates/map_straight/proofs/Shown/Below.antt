-- The numbers of the pairs of a map, in order: each is there once.
use Rattle.std.proofs.Common.{◌≡◌, ◌≢◌, ℕ, zero, suc, ◌+◌, ◌<◌, ◌≤◌, Bool, true, false, cond, List, [], ◌∷◌, ◌++◌, ◌⊎◌, inl, inr, refl, ap, sym, ◌∙◌, arith}
use Rattle.std.proofs.lemmas.Bool.{cases_lt, cases_order}
use Rattle.seize.specs.World.{times}
use Rattle.map_rule.specs.Chart.{Chart}
use Rattle.map_straight.specs.Shown.Shown.{AreOfCurrent}
use Rattle.map_straight.proofs.Shown.Permuted.{times_append}

module _ {K : Type 0} (c : Chart K) where
  -- the numbers of the pairs with lower ones, in order
  abbrev pub numbers_below : ℕ → List ℕ
  numbers_below zero = []
  numbers_below (suc n) = numbers_below n ++ cond (c.current n) (suc n ∷ []) []

  abbrev count : Bool → ℕ
  count b = cond b 1 0

  one_more : (x n : ℕ) → times x (numbers_below (suc n)) ≡ times x (numbers_below n) + times x (cond (c.current n) (suc n ∷ []) [])
  one_more x n = times_append x (numbers_below n) (cond (c.current n) (suc n ∷ []) [])

  other : (x n : ℕ) (b : Bool) → x ≢ suc n → times x (cond b (suc n ∷ []) []) ≡ 0
  other x n true ne = grind (arith, ne)
  other x n false ne = refl

  that : (n : ℕ) (b : Bool) → times (suc n) (cond b (suc n ∷ []) []) ≡ cond b 1 0
  that n true = grind arith
  that n false = refl

  below_zero : (n : ℕ) → times 0 (numbers_below n) ≡ 0
  below_zero zero = refl
  below_zero (suc n) = let h = below_zero n in let a = one_more 0 n in let b = other 0 n (c.current n) (omega arith) in omega (arith, h, a, b)

  below_none : (n k : ℕ) → n ≤ k → times (suc k) (numbers_below n) ≡ 0
  below_none zero k le = refl
  below_none (suc n) k le =
      let h = below_none n k (omega (arith, le)) in let a = one_more (suc k) n in let b = other (suc k) n (c.current n) (omega (arith, le)) in omega (arith, h, a, b)

  below_one : (n k : ℕ) → k < n → times (suc k) (numbers_below n) ≡ cond (c.current k) 1 0
  below_one zero k l = absurd (omega (arith, l))
  below_one (suc n) k l = by (below_one n k) (cases_order k n)
    where
      by : (k < n → times (suc k) (numbers_below n) ≡ cond (c.current k) 1 0) → (k ≡ n) ⊎ ((k < n) ⊎ (n < k)) → times (suc k) (numbers_below (suc n)) ≡ cond (c.current k) 1 0
      by on (inl e) =
          let h = below_none n k (omega (arith, e)) in let a = one_more (suc k) n in
          let b : times (suc k) (cond (c.current n) (suc n ∷ []) []) ≡ cond (c.current k) 1 0 = ap (λ j. times (suc k) (cond (c.current j) (suc j ∷ []) [])) (sym e) ∙ that k (c.current k) in
          a ∙ ap (λ x. x + times (suc k) (cond (c.current n) (suc n ∷ []) [])) h ∙ omega (arith, b)
      by on (inr (inl s)) =
          let h = on s in let a = one_more (suc k) n in let b = other (suc k) n (c.current n) (omega (arith, s)) in
          a ∙ omega (arith, h, b)
      by on (inr (inr s)) = absurd (omega (arith, l, s))

  pub below_current : (n : ℕ) → ((k : ℕ) → c.current k ≡ true → k < n) → AreOfCurrent c (numbers_below n)
  below_current n all = (below_zero n, λ k. by k (cases_lt k n))
    where
      by : (k : ℕ) → (k < n) ⊎ (n ≤ k) → times (suc k) (numbers_below n) ≡ cond (c.current k) 1 0
      by k (inl l) = below_one n k l
      by k (inr le) = below_none n k le ∙ sym (none k (c.current k) refl le)
        where
          none : (k : ℕ) (b : Bool) → c.current k ≡ b → n ≤ k → count (c.current k) ≡ 0
          none k true e le = absurd (let l = all k e in omega (arith, l, le))
          none k false e le = ap (λ (b : Bool). count b) e

  -- two such lists have each number as often
  pub same_current : (xs ys : List ℕ) → AreOfCurrent c xs → AreOfCurrent c ys → (n : ℕ) → times n xs ≡ times n ys
  same_current xs ys a b zero = a.0 ∙ sym b.0
  same_current xs ys a b (suc n) = a.1 n ∙ sym (b.1 n)
