-- The numbers at the places of a map's tables are those of its pairs, each once, where none is on its way.
use Rattle.std.specs.Prelude.{◌-◌}
use Rattle.std.specs.Cmp.{IsEquivalence}
use Rattle.std.proofs.Common.{◌≡◌, ℕ, suc, ◌+◌, ◌<◌, ◌≤◌, Bool, true, false, cond, Some, ◌⊎◌, inl, inr, refl, ap, sym, subst, arith}
use Rattle.std.proofs.lemmas.Bool.{cases_lt}
use Rattle.map_rule.specs.Chart.{Empty, Chart}
use Rattle.map_rule.specs.Rule.{Rule, Common, Incremental}
use Rattle.seize.specs.World.{times}
use Rattle.map_straight.specs.Shown.Shown.{NoneMoves, AreOfCurrent, pair_there, numbers_from}
use Rattle.map_straight.proofs.Shown.Counted.{zero_from, none_from, one_from}
use Rattle.map_straight.proofs.Shown.Standing.{current_there, stands_there, one_place, one_try}

module _ {K : Type 0} (same : K → K → Bool) (spot : ℕ → K → ℕ → ℕ) (incremental : Bool) (c : Chart K) (common : Common same spot incremental c) where
  nothing_there : (t i n : ℕ) → pair_there incremental (c.place t i) ≡ Some n → c.place t i ≡ Empty false → ⊥
  nothing_there t i n e empty = let h = ap (pair_there incremental) empty in cc

  -- a pair stands in a table that was made, at one of its places
  there_made : (t i n : ℕ) → pair_there incremental (c.place t i) ≡ Some n → t < c.past
  there_made t i n e = by (cases_lt t c.past)
    where
      by : (t < c.past) ⊎ (c.past ≤ t) → t < c.past
      by (inl l) = l
      by (inr l) = absurd (nothing_there t i n e (common.unmade t i l))

  there_inside : (t i n : ℕ) → pair_there incremental (c.place t i) ≡ Some n → i < c.len t
  there_inside t i n e = by (cases_lt i (c.len t))
    where
      by : (i < c.len t) ⊎ (c.len t ≤ i) → i < c.len t
      by (inl l) = l
      by (inr l) = absurd (nothing_there t i n e (common.outside t i (there_made t i n e) l))

module _ {K : Type 0} (same : K → K → Bool) (spot : ℕ → K → ℕ → ℕ) (classes : IsEquivalence same) (c : Chart K) where
  module _ (common : Common same spot true c) (mode : Incremental same spot true c) (none : NoneMoves true c) where
    at_place : (n t i k : ℕ) → c.first ≤ t → t ≡ c.first + k → pair_there true (c.place t i) ≡ Some n → times (suc n) (numbers_from true c (c.past - c.first)) ≡ 1
    at_place n t i k linked is e =
        let made = there_made same spot true c common t i n e in
        one_from true c n (c.past - c.first) k i (omega (arith, made, is)) (subst (λ u. i < c.len u) is (there_inside same spot true c common t i n e))
        (subst (λ u. pair_there true (c.place u i) ≡ Some n) is e)
        (λ l j inside d. let s = one_place same spot classes c common mode none t (c.first + l) i j n linked (omega arith) e d in omega (arith, s, is))
        (λ j d. sym (one_try same spot classes c common mode none t i j n e (subst (λ u. pair_there true (c.place u j) ≡ Some n) (sym is) d)))

    -- in incremental mode they are in all linked tables
    pub lists_incremental : AreOfCurrent c (numbers_from true c (c.past - c.first))
    lists_incremental = (zero_from true c (c.past - c.first), λ n. by n (c.current n) refl)
      where
        by : (n : ℕ) (b : Bool) → c.current n ≡ b → times (suc n) (numbers_from true c (c.past - c.first)) ≡ cond b 1 0
        by n true current =
            let s = stands_there same spot classes c common mode none n current in
            at_place n s.0 s.1 (s.0 - c.first) s.2 (let l = s.2 in omega (arith, l)) s.3
        by n false other =
            none_from true c n (c.past - c.first) (λ k i l e. let d = current_there same spot classes c common mode (c.first + k) i n (omega arith) e in cc)

  -- in the mode of the map
  pub lists_all : (incremental : Bool) → Rule same spot incremental c → NoneMoves incremental c → incremental ≡ true → AreOfCurrent c (numbers_from incremental c (c.past - c.first))
  lists_all true rule none e = lists_incremental rule.common rule.in_mode none
  lists_all false rule none e = absurd (cc)
