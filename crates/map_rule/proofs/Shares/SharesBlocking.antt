-- A caller's shares of the places of the root, where pairs are copied in blocking mode: as it claims them, does them, counts them and gives them up.
use Rattle.std.specs.Prelude.{◌&&◌}
use Rattle.std.proofs.Common.{◌≡◌, ◌≢◌, ℕ, ◌+◌, ◌-◌, ◌<◌, ◌≤◌, false, cond, leb, ltb, min, arith, inl, inr}
use Rattle.std.proofs.lemmas.Bool.{cases_eq}
use Rattle.std.proofs.lemmas.Bool.Decides.{nat_tests}
use Rattle.map_rule.specs.Chart.{Share, Claimed, Done, Lost, put_in}
use Rattle.map_rule.specs.Rule.{total}
use Rattle.map_rule.specs.Moves.{is_of_caller, is_done_by, with_counted, with_lost}
use Rattle.map_rule.proofs.Shares.CopiersShares.{total_more}

-- one place more is done
pub one_done : (caller : ℕ) (d : ℕ → ℕ → Share) (t i n : ℕ) → d t i ≡ Claimed caller → i < n
    → total (is_done_by caller) (put_in d t i (Done caller) t) n ≡ total (is_done_by caller) (d t) n + 1
one_done caller d t i n mine l = total_more (is_done_by caller) d t i (Done caller) n l (grind (arith, mine)) (grind arith)

-- no share of another table changes
pub done_elsewhere : (caller : ℕ) (d : ℕ → ℕ → Share) (t i u j : ℕ) → u ≢ t → is_of_caller caller (d u j) ≡ false → is_of_caller caller (put_in d t i (Done caller) u j) ≡ false
done_elsewhere caller d t i u j other none = grind arith

-- the range begins behind the place that is done
pub range_within : (caller : ℕ) (d : ℕ → ℕ → Share) (t place end j : ℕ) → ((i : ℕ) → place ≤ i → i < end → d t i ≡ Claimed caller) → place + 1 ≤ j → j < end
    → put_in d t place (Done caller) t j ≡ Claimed caller
range_within caller d t place end j mine low high = let here = mine j (omega arith) high in grind (arith, here)

pub range_alone : (caller : ℕ) (d : ℕ → ℕ → Share) (t place end j : ℕ) → ((i : ℕ) → d t i ≡ Claimed caller → (place ≤ i) × (i < end))
    → put_in d t place (Done caller) t j ≡ Claimed caller → (place + 1 ≤ j) × (j < end)
range_alone caller d t place end j mine e =
    elim (cases_eq j place) as (λ _. (place + 1 ≤ j) × (j < end)) [
      | inl same ↦ absurd (grind arith)
      | inr other ↦ (let old : d t j ≡ Claimed caller = grind arith in let in_range = mine j old in (omega (arith, in_range.0), in_range.1))
    ]

-- what is counted or given up is the caller's no more
pub counted_no_more : (caller : ℕ) (s : Share) → s ≢ Claimed caller → is_of_caller caller (with_counted caller s) ≡ false
counted_no_more caller s none = grind arith

pub lost_no_more : (caller : ℕ) (s : Share) → is_of_caller caller (with_lost caller s) ≡ false
lost_no_more caller s = grind arith

pub lost_here : (caller : ℕ) (s : Share) → s ≡ Claimed caller → with_lost caller s ≡ Lost
lost_here caller s e = grind arith

-- of a share that is not the caller's, after places from the claim on were claimed
module _ (caller claim chunk len j : ℕ) (s : Share) where
  abbrev pub claimed_share : Share
  claimed_share = cond (leb claim j && ltb j (claim + chunk) && ltb j len) (Claimed caller) s

  pub claimed_not_done : is_of_caller caller s ≡ false → is_done_by caller claimed_share ≡ 0
  claimed_not_done none = grind arith

  pub claimed_within : claim ≤ j → j < claim + min chunk (len - claim) → claimed_share ≡ Claimed caller
  claimed_within low high = let a : j < claim + chunk = omega (arith, high) in let b : j < len = omega (arith, high, low) in grind (arith, nat_tests)

  pub claimed_alone : is_of_caller caller s ≡ false → claimed_share ≡ Claimed caller → (claim ≤ j) × (j < claim + min chunk (len - claim))
  claimed_alone none e =
      let tests : (claim ≤ j) × (j < claim + chunk) × (j < len) = grind (arith, nat_tests) in
      (tests.0, omega (arith, tests.0, tests.1, tests.2))

  pub claimed_past : len ≤ claim → claimed_share ≡ s
  claimed_past over = grind (arith, nat_tests)
