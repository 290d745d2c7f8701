-- Places of the root that a caller has claimed, where pairs move in incremental mode.
use Rattle.std.proofs.Common.{◌≡◌, ℕ, suc, ◌<◌, Bool, true, subst, arith}
use Rattle.map_rule.specs.Chart.{Copying, Holds, Share, Claimed, Chart, put_in}
use Rattle.map_rule.specs.Rule.{Rule, Agrees}
use Rattle.map_rule.specs.Moves.{is_of_caller}

-- the share of a caller changes, and no other's
pub claimed_stays : (share : ℕ → ℕ → Share) (u i caller : ℕ) (s : Share) → share u i ≡ Claimed caller → (other : ℕ) → (caller ≡ other → ⊥)
    → (t j : ℕ) → is_of_caller other (share t j) ≡ true → put_in share u i s t j ≡ share t j
claimed_stays share u i caller s e other not_by t j of_other = grind (arith, e, of_other, not_by)

module _ {K : Type 0} (same : K → K → Bool) (spot : ℕ → K → ℕ → ℕ) where
  -- a place that a caller has claimed holds a pair that is being copied
  pub claimed_is_copying : (caller i : ℕ) (c : Chart K) → Rule same spot true c → i < c.len c.first → c.share (suc c.first) i ≡ Claimed caller
      → (n : ℕ) × (borrowed : Bool) × (c.place c.first i ≡ Holds n Copying borrowed)
  claimed_is_copying caller i c inv l e = subst (λ (x : Share). Agrees x (c.place c.first i)) e (inv.in_mode.shares i l)

  -- shares are claimed where there is a table behind the root
  pub claimed_has_next : (caller i : ℕ) (c : Chart K) → Rule same spot true c → c.share (suc c.first) i ≡ Claimed caller → suc c.first < c.past
  claimed_has_next caller i c inv e = grind (arith, inv.common.unshared (suc c.first) i, e)
