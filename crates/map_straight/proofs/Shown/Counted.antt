-- How often the number of a pair is among those of the places of tables.
use Rattle.std.specs.Prelude.{Option, None}
use Rattle.std.proofs.Common.{◌≡◌, ◌≢◌, ℕ, zero, suc, ◌+◌, ◌<◌, Bool, Some, ◌⊎◌, inl, inr, refl, ap, sym, ◌∙◌, arith}
use Rattle.std.proofs.lemmas.Bool.{cases_order}
use Rattle.map_rule.specs.Chart.{Chart}
use Rattle.seize.specs.World.{times}
use Rattle.map_straight.proofs.Shown.Permuted.{times_append}
use Rattle.map_straight.specs.Shown.Shown.{pair_there, number_there, numbers_there, numbers_from}

-- no pair has the number 0
zero_there : (o : Option ℕ) → times 0 (number_there o) ≡ 0
zero_there None = refl
zero_there (Some n) = grind arith

-- where the pair stands, and where it doesn't
one_there : (o : Option ℕ) (n : ℕ) → o ≡ Some n → times (suc n) (number_there o) ≡ 1
one_there None n e = absurd (cc)
one_there (Some m) n e = grind arith

none_there : (o : Option ℕ) (n : ℕ) → o ≢ Some n → times (suc n) (number_there o) ≡ 0
none_there None n other = refl
none_there (Some m) n other = let o : n ≢ m = λ e. other (ap Some (sym e)) in grind arith

module _ {K : Type 0} (incremental : Bool) (c : Chart K) where
  pub zero_in : (t places : ℕ) → times 0 (numbers_there incremental c t places) ≡ 0
  zero_in t zero = refl
  zero_in t (suc places) =
      let a = times_append 0 (numbers_there incremental c t places) (number_there (pair_there incremental (c.place t places))) in
      let b = zero_in t places in
      let d = zero_there (pair_there incremental (c.place t places)) in
      omega (arith, a, b, d)

  pub zero_from : (tables : ℕ) → times 0 (numbers_from incremental c tables) ≡ 0
  zero_from zero = refl
  zero_from (suc tables) =
      let a = times_append 0 (numbers_from incremental c tables) (numbers_there incremental c (c.first + tables) (c.len (c.first + tables))) in
      let b = zero_from tables in
      let d = zero_in (c.first + tables) (c.len (c.first + tables)) in
      omega (arith, a, b, d)

  module _ (n : ℕ) where
    abbrev pub At : ℕ → ℕ → Type 0
    At t i = pair_there incremental (c.place t i) ≡ Some n

    pub none_in : (t places : ℕ) → ((i : ℕ) → i < places → At t i → ⊥) → times (suc n) (numbers_there incremental c t places) ≡ 0
    none_in t zero none = refl
    none_in t (suc places) none =
        let a = times_append (suc n) (numbers_there incremental c t places) (number_there (pair_there incremental (c.place t places))) in
        let b = none_in t places (λ i l. none i (omega (arith, l))) in
        let d = none_there (pair_there incremental (c.place t places)) n (none places (omega arith)) in
        omega (arith, a, b, d)

    pub one_in : (t places i : ℕ) → i < places → At t i → ((j : ℕ) → j < places → At t j → j ≡ i) → times (suc n) (numbers_there incremental c t places) ≡ 1
    one_in t zero i l e one = absurd (omega (arith, l))
    one_in t (suc places) i l e one = by (λ s. one_in t places i s e (λ j k at. one j (omega (arith, k)) at)) (cases_order i places)
      where
        a : times (suc n) (numbers_there incremental c t (suc places)) ≡ times (suc n) (numbers_there incremental c t places) + times (suc n) (number_there (pair_there incremental (c.place t places)))
        a = times_append (suc n) (numbers_there incremental c t places) (number_there (pair_there incremental (c.place t places)))

        by : (i < places → times (suc n) (numbers_there incremental c t places) ≡ 1) → (i ≡ places) ⊎ ((i < places) ⊎ (places < i)) → times (suc n) (numbers_there incremental c t (suc places)) ≡ 1
        by before (inl s) =
            let b = none_in t places (λ j k at. let f = one j (omega (arith, k)) at in omega (arith, k, f, s)) in
            let d = one_there (pair_there incremental (c.place t places)) n (ap (λ j. pair_there incremental (c.place t j)) (sym s) ∙ e) in
            omega (arith, a, b, d)
        by before (inr (inl s)) =
            let b = before s in
            let d = none_there (pair_there incremental (c.place t places)) n (λ at. let f = one places (omega arith) at in omega (arith, f, s)) in
            omega (arith, a, b, d)
        by before (inr (inr s)) = absurd (omega (arith, l, s))

    -- and among those of the tables from the root on
    pub none_from : (tables : ℕ) → ((k i : ℕ) → k < tables → At (c.first + k) i → ⊥) → times (suc n) (numbers_from incremental c tables) ≡ 0
    none_from zero none = refl
    none_from (suc tables) none =
        let a = times_append (suc n) (numbers_from incremental c tables) (numbers_there incremental c (c.first + tables) (c.len (c.first + tables))) in
        let b = none_from tables (λ k i l. none k i (omega (arith, l))) in
        let d = none_in (c.first + tables) (c.len (c.first + tables)) (λ i l. none tables i (omega arith)) in
        omega (arith, a, b, d)

    pub one_from : (tables k i : ℕ) → k < tables → i < c.len (c.first + k) → At (c.first + k) i → ((l j : ℕ) → l < tables → At (c.first + l) j → l ≡ k)
        → ((j : ℕ) → At (c.first + k) j → j ≡ i) → times (suc n) (numbers_from incremental c tables) ≡ 1
    one_from zero k i l inside e table place = absurd (omega (arith, l))
    one_from (suc tables) k i l inside e table place =
        by (λ s. one_from tables k i s inside e (λ x y z at. table x y (omega (arith, z)) at) place) (cases_order k tables)
      where
        a : times (suc n) (numbers_from incremental c (suc tables))
            ≡ times (suc n) (numbers_from incremental c tables) + times (suc n) (numbers_there incremental c (c.first + tables) (c.len (c.first + tables)))
        a = times_append (suc n) (numbers_from incremental c tables) (numbers_there incremental c (c.first + tables) (c.len (c.first + tables)))

        last : (j : ℕ) → k ≡ j → times (suc n) (numbers_there incremental c (c.first + j) (c.len (c.first + j))) ≡ 1
        last j s = ap (λ x. times (suc n) (numbers_there incremental c (c.first + x) (c.len (c.first + x)))) (sym s) ∙ one_in (c.first + k) (c.len (c.first + k)) i inside e (λ x y at. place x at)

        by : (k < tables → times (suc n) (numbers_from incremental c tables) ≡ 1) → (k ≡ tables) ⊎ ((k < tables) ⊎ (tables < k)) → times (suc n) (numbers_from incremental c (suc tables)) ≡ 1
        by before (inl s) =
            let b = none_from tables (λ x y z at. let f = table x y (omega (arith, z)) at in omega (arith, z, f, s)) in
            let d = last tables s in
            omega (arith, a, b, d)
        by before (inr (inl s)) =
            let b = before s in
            let d = none_in (c.first + tables) (c.len (c.first + tables)) (λ x y at. let f = table tables x (omega arith) at in omega (arith, f, s)) in
            omega (arith, a, b, d)
        by before (inr (inr s)) = absurd (omega (arith, l, s))
