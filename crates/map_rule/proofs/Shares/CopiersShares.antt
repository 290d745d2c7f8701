-- Sums over a caller's shares, as it copies places and counts them.
use Rattle.std.proofs.Common.{◌≡◌, ℕ, zero, suc, ◌+◌, ◌<◌, ◌≤◌, refl, arith, inl, inr}
use Rattle.std.proofs.lemmas.Bool.{cases_eq}
use Rattle.map_rule.specs.Chart.{Share, Free, Claimed, Done, Counted, Lost, put_in, is_counted}
use Rattle.map_rule.specs.Rule.{total}
use Rattle.map_rule.specs.Moves.{is_done_by, with_counted}
use Rattle.map_rule.proofs.Moves.Totals.{total_same, total_none, total_with_counted, total_counted_le}

-- one share more is one that f counts
pub total_more : {X : Type 0} (f : X → ℕ) (d : ℕ → ℕ → X) (t i : ℕ) (v : X) (n : ℕ) → i < n → f (d t i) ≡ 0 → f v ≡ 1
    → total f (put_in d t i v t) n ≡ total f (d t) n + 1
total_more f d t i v zero l was is = absurd (omega arith)
total_more f d t i v (suc n) l was is =
    elim (cases_eq i n) as (λ _. total f (put_in d t i v t) (suc n) ≡ total f (d t) (suc n) + 1) [
      | inl e ↦ (let below = total_same f (d t) (put_in d t i v t) n (λ j m. grind arith) in
          let last : f (put_in d t i v t n) ≡ 1 = grind arith in
          let old : f (d t n) ≡ 0 = grind arith in
          omega (arith, below, last, old))
      | inr ne ↦ (let below = total_more f d t i v n (omega arith) was is in
          let last : f (put_in d t i v t n) ≡ f (d t n) = grind arith in
          omega (arith, below, last))
    ]

-- what is counted, and what a caller has done and not counted, is no more than there is
pub done_fits : (caller : ℕ) (d : ℕ → Share) (n : ℕ) → total is_counted d n + total (is_done_by caller) d n ≤ n
done_fits caller d n = let all = total_with_counted caller d n in let most = total_counted_le (λ j. with_counted caller (d j)) n in omega (arith, all, most)

counted_none : (caller : ℕ) (s : Share) → is_done_by caller (with_counted caller s) ≡ 0
counted_none caller Free = refl
counted_none caller (Claimed other) = refl
counted_none caller (Done other) = grind arith
counted_none caller Counted = refl
counted_none caller Lost = refl

-- once it is counted, a caller has nothing more done
pub none_done : (caller : ℕ) (d : ℕ → Share) (n : ℕ) → total (is_done_by caller) (λ j. with_counted caller (d j)) n ≡ 0
none_done caller d n = total_none (is_done_by caller) (λ j. with_counted caller (d j)) n (λ j l. counted_none caller (d j))

-- claims stay, and none is added
pub claimed_counted : (caller other : ℕ) (s : Share) → with_counted caller s ≡ Claimed other → s ≡ Claimed other
claimed_counted caller other Free e = e
claimed_counted caller other (Claimed third) e = e
claimed_counted caller other (Done third) e = grind arith
claimed_counted caller other Counted e = e
claimed_counted caller other Lost e = e
