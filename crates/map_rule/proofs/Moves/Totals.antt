-- Sums over the shares of a table's places.
use Rattle.std.proofs.Common.{◌≡◌, ℕ, zero, suc, ◌+◌, ◌<◌, ◌≤◌, refl, arith}
use Rattle.map_rule.specs.Chart.{Share, Free, Claimed, Done, Counted, Lost, put_in, is_counted}
use Rattle.map_rule.specs.Rule.{total}
use Rattle.map_rule.specs.Moves.{is_done_by, with_counted, with_lost}

-- shares that f doesn't tell apart below n
pub total_same : {X : Type 0} (f : X → ℕ) (d e : ℕ → X) (n : ℕ) → ((j : ℕ) → j < n → f (e j) ≡ f (d j)) → total f e n ≡ total f d n
total_same f d e zero h = refl
total_same f d e (suc n) h = let ih = total_same f d e n (λ j l. h j (omega arith)) in omega (arith, ih, h n (omega arith))

pub total_none : {X : Type 0} (f : X → ℕ) (d : ℕ → X) (n : ℕ) → ((j : ℕ) → j < n → f (d j) ≡ 0) → total f d n ≡ 0
total_none f d zero h = refl
total_none f d (suc n) h = let ih = total_none f d n (λ j l. h j (omega arith)) in omega (arith, ih, h n (omega arith))

-- one share is another one, and f doesn't tell them apart
pub total_put_in : {X : Type 0} (f : X → ℕ) (d : ℕ → ℕ → X) (t i : ℕ) (v : X) (u n : ℕ) → f v ≡ f (d t i) → total f (put_in d t i v u) n ≡ total f (d u) n
total_put_in f d t i v u n h = total_same f (d u) (put_in d t i v u) n (λ j l. grind arith)

counted_one : (s : Share) → is_counted s ≤ 1
counted_one Free = omega arith
counted_one (Claimed caller) = omega arith
counted_one (Done caller) = omega arith
counted_one Counted = omega arith
counted_one Lost = omega arith

pub total_counted_le : (d : ℕ → Share) (n : ℕ) → total is_counted d n ≤ n
total_counted_le d zero = omega arith
total_counted_le d (suc n) = let ih = total_counted_le d n in let one = counted_one (d n) in omega (arith, ih, one)

is_counted_one : (s : Share) → is_counted s ≡ 1 → s ≡ Counted
is_counted_one Free h = absurd (omega arith)
is_counted_one (Claimed caller) h = absurd (omega arith)
is_counted_one (Done caller) h = absurd (omega arith)
is_counted_one Counted h = refl
is_counted_one Lost h = absurd (omega arith)

-- where as many are counted as there are, each is
pub total_full : (d : ℕ → Share) (n : ℕ) → total is_counted d n ≡ n → (j : ℕ) → j < n → d j ≡ Counted
total_full d zero h j l = absurd (omega arith)
total_full d (suc n) h j l = last d n h j l (counted_one (d n)) (total_counted_le d n) (is_counted_one (d n)) (total_full d n)
  where
    last : (d : ℕ → Share) (n : ℕ) → total is_counted d (suc n) ≡ suc n → (j : ℕ) → j < suc n → is_counted (d n) ≤ 1 → total is_counted d n ≤ n
        → (is_counted (d n) ≡ 1 → d n ≡ Counted) → (total is_counted d n ≡ n → (j : ℕ) → j < n → d j ≡ Counted) → d j ≡ Counted
    last d n h j l a b e ih = grind (arith, e, ih (omega arith) j)

counted_share : (caller : ℕ) (s : Share) → is_counted (with_counted caller s) ≡ is_counted s + is_done_by caller s
counted_share caller Free = refl
counted_share caller (Claimed other) = refl
counted_share caller (Done other) = grind arith
counted_share caller Counted = refl
counted_share caller Lost = refl

-- what a caller has done is counted
pub total_with_counted : (caller : ℕ) (d : ℕ → Share) (n : ℕ)
    → total is_counted (λ j. with_counted caller (d j)) n ≡ total is_counted d n + total (is_done_by caller) d n
total_with_counted caller d zero = refl
total_with_counted caller d (suc n) = let ih = total_with_counted caller d n in let one = counted_share caller (d n) in omega (arith, ih, one)

lost_share : (caller : ℕ) (s : Share) → is_counted (with_lost caller s) ≡ is_counted s
lost_share caller Free = refl
lost_share caller (Claimed other) = grind arith
lost_share caller (Done other) = grind arith
lost_share caller Counted = refl
lost_share caller Lost = refl

-- what is given up was not counted
pub total_with_lost : (caller : ℕ) (d : ℕ → Share) (n : ℕ) → total is_counted (λ j. with_lost caller (d j)) n ≡ total is_counted d n
total_with_lost caller d n = total_same is_counted d (λ j. with_lost caller (d j)) n (λ j l. lost_share caller (d j))
