-- Which pairs of a map stand at its places, where none is on its way: each of its pairs stands at just one place where it counts.
use Rattle.std.specs.Cmp.{IsEquivalence}
use Rattle.std.proofs.Common.{◌≡◌, ◌≢◌, ℕ, ◌<◌, ◌≤◌, Bool, true, false, Some, ◌⊎◌, inl, inr, refl, ap, ◌∙◌, arith}
use Rattle.std.proofs.lemmas.Bool.{cases_order}
use Rattle.map_rule.specs.Chart.{Phase, Still, Copying, Copied, Place, Empty, Tombstone, Holds, Chart, is_marked}
use Rattle.map_rule.specs.Rule.{Common, Incremental, Shut, IsMoving, is_of}
use Rattle.map_straight.specs.Shown.Shown.{NoneMoves, pair_there}

-- a place whose pair counts
there_holds : (incremental : Bool) (place : Place) (n : ℕ) → pair_there incremental place ≡ Some n
    → (phase : Phase) × (borrowed : Bool) × (place ≡ Holds n phase borrowed) × (incremental ≡ true → phase ≡ Still)
there_holds incremental (Empty marked) n e = absurd (cc)
there_holds incremental (Tombstone marked) n e = absurd (cc)
there_holds incremental (Holds m Still borrowed) n e = (Still, borrowed, ap (λ (k : ℕ). Holds k Still borrowed) (cc), λ b. refl)
there_holds true (Holds m Copying borrowed) n e = absurd (cc)
there_holds false (Holds m Copying borrowed) n e = (Copying, borrowed, ap (λ (k : ℕ). Holds k Copying borrowed) (cc), λ b. absurd (cc))
there_holds true (Holds m Copied borrowed) n e = absurd (cc)
there_holds false (Holds m Copied borrowed) n e = (Copied, borrowed, ap (λ (k : ℕ). Holds k Copied borrowed) (cc), λ b. absurd (cc))

holds_there : (incremental : Bool) (n : ℕ) (phase : Phase) (borrowed : Bool) → (incremental ≡ true → phase ≡ Still) → pair_there incremental (Holds n phase borrowed) ≡ Some n
holds_there incremental n Still borrowed e = refl
holds_there true n Copying borrowed e = let k = e refl in absurd (cc)
holds_there false n Copying borrowed e = refl
holds_there true n Copied borrowed e = let k = e refl in absurd (cc)
holds_there false n Copied borrowed e = refl

still_counts : (phase : Phase) → phase ≡ Still → phase ≢ Copied
still_counts phase e d = absurd (cc)

module _ {K : Type 0} (same : K → K → Bool) (spot : ℕ → K → ℕ → ℕ) (classes : IsEquivalence same) where
  -- in incremental mode
  module _ (c : Chart K) (common : Common same spot true c) (mode : Incremental same spot true c) where
    -- a pair that counts is one of the map
    pub current_there : (t i n : ℕ) → c.first ≤ t → pair_there true (c.place t i) ≡ Some n → c.current n ≡ true
    current_there t i n linked e =
        let h = there_holds true (c.place t i) n e in
        common.is_current t i n h.0 h.1 h.2 (still_counts h.0 (h.3 refl)) linked

    module _ (none : NoneMoves true c) where
      -- it counts where it stands
      pub stands_there : (n : ℕ) → c.current n ≡ true → (t : ℕ) × (i : ℕ) × (c.first ≤ t) × (pair_there true (c.place t i) ≡ Some n)
      stands_there n current =
          let s = common.stands n current in
          (s.0, s.1, s.6, ap (pair_there true) s.4 ∙ holds_there true n s.2 s.3 (λ b. still s.0 s.1 s.2 s.3 s.4 s.5 s.6))
        where
          still : (t i : ℕ) (phase : Phase) (borrowed : Bool) → c.place t i ≡ Holds n phase borrowed → phase ≢ Copied → c.first ≤ t → phase ≡ Still
          still t i Still borrowed e ne l = refl
          still t i Copied borrowed e ne l = absurd (ne refl)
          still t i Copying borrowed e ne l = absurd (by (cases_order c.first t))
            where
              by : (c.first ≡ t) ⊎ ((c.first < t) ⊎ (t < c.first)) → ⊥
              by (inl s) = none refl i n borrowed (ap (λ u. c.place u i) s ∙ e)
              by (inr (inl s)) = let u = common.unmarked t i s in let m = ap is_marked e in cc
              by (inr (inr s)) = omega arith

      -- no class stands so in two tables
      apart : (t u i j n : ℕ) → c.first ≤ t → t < u → pair_there true (c.place t i) ≡ Some n → pair_there true (c.place u j) ≡ Some n → ⊥
      apart t u i j n linked before e d =
          let h = there_holds true (c.place t i) n e in
          let g = there_holds true (c.place u j) n d in
          let k = common.keyed t i n h.0 h.1 h.2 in
          by h.0 h.1 h.2 (h.3 refl) k.1 k.2 g.1 (mode.chain t u j n g.0 g.1 k.1 g.2 k.2 before linked)
        where
          by : (phase : Phase) (borrowed : Bool) → c.place t i ≡ Holds n phase borrowed → phase ≡ Still → (k : K) → c.key n ≡ Some k
              → (lent : Bool) → Shut same spot true c t k ⊎ ((t ≡ c.first) × (lent ≡ true) × IsMoving same spot true c n) → ⊥
          by phase borrowed h still k key lent (inl shut) =
              let copied = shut.0 i n phase borrowed h (ap (is_of same spot true k) key ∙ classes.refl k) in absurd (cc)
          by phase borrowed h still k key lent (inr moving) = none refl moving.2.0 n moving.2.1 moving.2.2

      pub one_place : (t u i j n : ℕ) → c.first ≤ t → c.first ≤ u → pair_there true (c.place t i) ≡ Some n → pair_there true (c.place u j) ≡ Some n → t ≡ u
      one_place t u i j n linked linked2 e d = by (cases_order t u)
        where
          by : (t ≡ u) ⊎ ((t < u) ⊎ (u < t)) → t ≡ u
          by (inl s) = s
          by (inr (inl s)) = absurd (apart t u i j n linked s e d)
          by (inr (inr s)) = absurd (apart u t j i n linked2 s d e)

      -- nor at two places of one
      pub one_try : (t i j n : ℕ) → pair_there true (c.place t i) ≡ Some n → pair_there true (c.place t j) ≡ Some n → i ≡ j
      one_try t i j n e d =
          let h = there_holds true (c.place t i) n e in
          let g = there_holds true (c.place t j) n d in
          let k = common.keyed t i n h.0 h.1 h.2 in
          let is = ap (is_of same spot true k.1) k.2 ∙ classes.refl k.1 in
          common.once t i j n n h.0 g.0 h.1 g.1 k.1 (mode.never_aborted t) h.2 g.2 is is
