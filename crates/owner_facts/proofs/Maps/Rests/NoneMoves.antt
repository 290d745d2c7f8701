-- Where one caller alone may have a part in a copying, and has none, no pair is on its way in incremental mode.
use Rattle.std.proofs.Common.{◌≡◌, ◌≢◌, ℕ, suc, ◌<◌, ◌≤◌, Bool, true, false, cond, ◌⊎◌, inl, inr, refl, ap}
use Rattle.std.proofs.lemmas.Bool.{cases_lt}
use Rattle.many_maps.specs.Given.RuleChart.{Chart, Copying, Empty, Holds, Claimed, is_marked, is_settled}
use Rattle.many_maps.specs.Given.RuleRule.{Rule}
use Rattle.many_maps.specs.Given.PointsMeasures.{OthersIdle}
use Rattle.owner_facts.proofs.Maps.Laws.{marked_is_settled_or_own}

module _ {K : Type 0} (same : K → K → Bool) (spot : ℕ → K → ℕ → ℕ) (c : Chart K) (idle : OthersIdle 0 c) where
  holds_something : (t i n : ℕ) (borrowed : Bool) → c.place t i ≡ Holds n Copying borrowed → c.place t i ≡ Empty false → ⊥
  holds_something t i n borrowed e empty = let h = ap is_marked e in let k = ap is_marked empty in cc

  pub none_copying : (incremental : Bool) → Rule same spot incremental c → (incremental ≡ true → (j : ℕ) → c.share (suc c.first) j ≢ Claimed 0)
      → incremental ≡ true → (i n : ℕ) (borrowed : Bool) → c.place c.first i ≢ Holds n Copying borrowed
  none_copying false rule none e i n borrowed is = cc
  none_copying true rule none e i n borrowed is = by (cases_lt c.first c.past) (cases_lt i (c.len c.first))
    where
      inside : i < c.len c.first → ⊥
      inside l = by_share (marked_is_settled_or_own 0 (c.share (suc c.first) i) (c.place c.first i) (λ j other. idle j (suc c.first) i other) (rule.in_mode.shares i l) (ap is_marked is))
        where
          by_share : (is_settled (c.place c.first i) ≡ true) ⊎ (c.share (suc c.first) i ≡ Claimed 0) → ⊥
          by_share (inl settled) = let k = ap is_settled is in cc
          by_share (inr own) = none refl i own

      by : (c.first < c.past) ⊎ (c.past ≤ c.first) → (i < c.len c.first) ⊎ (c.len c.first ≤ i) → ⊥
      by (inr l) h = holds_something c.first i n borrowed is (rule.common.unmade c.first i l)
      by (inl l) (inr h) = holds_something c.first i n borrowed is (rule.common.outside c.first i l h)
      by (inl l) (inl h) = inside h

-- in incremental mode it has none, as it is idle
pub claims_none : (incremental : Bool) (P Q R : Type 0) → cond incremental (P × Q) R → incremental ≡ true → Q
claims_none true P Q R h e = h.1
claims_none false P Q R h e = absurd (cc)
