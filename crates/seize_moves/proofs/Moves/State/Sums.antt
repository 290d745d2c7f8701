-- Sums over the slots, and what holds of an array's places after a write.
use Rattle.std.proofs.Common.{◌≡◌, ℕ, zero, suc, ◌+◌, ◌<◌, ◌≤◌, Bool, true, false, cond, eqb, refl, arith, subst, sym, eqb-true}
use Rattle.seize_moves.proofs.Moves.State.Ghost.{put, Debt, Unscanned, owes, was_put, counts, total}

pub total-put_above : (f : Debt → ℕ) (d : ℕ → Debt) (t : ℕ) (v : Debt) (n : ℕ) → n ≤ t → total f (put d t v) n ≡ total f d n
total-put_above f d t v zero h = refl
total-put_above f d t v (suc n) h = let ih = total-put_above f d t v n (omega arith) in grind (arith, ih)

pub total-put : (f : Debt → ℕ) (d : ℕ → Debt) (t : ℕ) (v : Debt) (n : ℕ) → t < n → total f (put d t v) n + f (d t) ≡ total f d n + f v
total-put f d t v zero h = absurd (omega arith)
total-put f d t v (suc n) h = last f d t v n h (total-put f d t v n) (total-put_above f d t v n)
  where
    last : (f : Debt → ℕ) (d : ℕ → Debt) (t : ℕ) (v : Debt) (n : ℕ) → t < suc n
        → (t < n → total f (put d t v) n + f (d t) ≡ total f d n + f v) → (n ≤ t → total f (put d t v) n ≡ total f d n)
        → total f (put d t v) (suc n) + f (d t) ≡ total f d (suc n) + f v
    last f d t v n h a b = grind arith

pub total_zero : (f : Debt → ℕ) (d : ℕ → Debt) (n t : ℕ) → total f d n ≡ 0 → t < n → f (d t) ≡ 0
total_zero f d zero t e h = absurd (omega arith)
total_zero f d (suc n) t e h = last f d n t e h (total_zero f d n t)
  where
    last : (f : Debt → ℕ) (d : ℕ → Debt) (n t : ℕ) → total f d (suc n) ≡ 0 → t < suc n
        → (total f d n ≡ 0 → t < n → f (d t) ≡ 0) → f (d t) ≡ 0
    last f d n t e h a = grind arith

pub total_le : (f : Debt → ℕ) (d : ℕ → Debt) (n t : ℕ) → t < n → f (d t) ≤ total f d n
total_le f d zero t h = absurd (omega arith)
total_le f d (suc n) t h = last f d n t h (total_le f d n t)
  where
    last : (f : Debt → ℕ) (d : ℕ → Debt) (n t : ℕ) → t < suc n → (t < n → f (d t) ≤ total f d n) → f (d t) ≤ total f d (suc n)
    last f d n t h a = grind arith

pub put_parts : (d : ℕ → Debt) (n : ℕ) → total was_put d n ≡ total owes d n + total counts d n
put_parts d zero = refl
put_parts d (suc n) = one (d n) _ _ _ (put_parts d n)
  where
    one : (x : Debt) (a b c : ℕ) → a ≡ b + c → a + was_put x ≡ (b + owes x) + (c + counts x)
    one x a b c e = grind arith

pub put_le : (d : ℕ → Debt) (n : ℕ) → total was_put d n ≤ n
put_le d zero = omega arith
put_le d (suc n) = one (d n) _ _ (put_le d n)
  where
    one : (x : Debt) (a n : ℕ) → a ≤ n → a + was_put x ≤ suc n
    one x a n e = grind arith

pub total_none : (f : Debt → ℕ) (n : ℕ) → f Unscanned ≡ 0 → total f (λ t. Unscanned) n ≡ 0
total_none f zero e = refl
total_none f (suc n) e = let ih = total_none f n e in omega (arith, ih)

-- debts that f doesn't tell apart
pub total_same : (f : Debt → ℕ) (d e : ℕ → Debt) (n : ℕ) → ((t : ℕ) → f (e t) ≡ f (d t)) → total f e n ≡ total f d n
total_same f d e zero h = refl
total_same f d e (suc n) h = let ih = total_same f d e n h in omega (arith, ih, h n)

pub total_some : (f : Debt → ℕ) (d : ℕ → Debt) (n : ℕ) → 0 < total f d n → (t : ℕ) × (t < n) × (0 < f (d t))
total_some f d zero h = absurd (omega arith)
total_some f d (suc n) h = last f d n h (f (d n)) refl (total_some f d n)
  where
    last : (f : Debt → ℕ) (d : ℕ → Debt) (n : ℕ) → 0 < total f d (suc n) → (k : ℕ) → f (d n) ≡ k
        → (0 < total f d n → (t : ℕ) × (t < n) × (0 < f (d t))) → (t : ℕ) × (t < suc n) × (0 < f (d t))
    last f d n h zero e ih = let r = ih (omega arith) in (r.0, omega arith, r.2)
    last f d n h (suc k) e ih = (n, omega arith, omega arith)

-- what holds of an array's places, after a write
pub put_one : {X : Type 0} (P : ℕ → X → Type 0) (f : ℕ → X) (k : ℕ) (v : X) → P k v → ((j : ℕ) → P j (f j)) → (j : ℕ) → P j (put f k v j)
put_one P f k v a h j = at (eqb j k) (eqb-true j k) (h j)
  where
    at : (b : Bool) → (b ≡ true → j ≡ k) → P j (f j) → P j (cond b v (f j))
    at true e p = subst (λ (i : ℕ). P i v) (sym (e refl)) a
    at false e p = p

-- what holds of two arrays' places, after a write to both
pub put_both : {X Y : Type 0} (P : ℕ → X → Y → Type 0) (f : ℕ → X) (g : ℕ → Y) (k : ℕ) (v : X) (w : Y)
    → P k v w → ((j : ℕ) → P j (f j) (g j)) → (j : ℕ) → P j (put f k v j) (put g k w j)
put_both P f g k v w a h j = at (eqb j k) (eqb-true j k) (h j)
  where
    at : (b : Bool) → (b ≡ true → j ≡ k) → P j (f j) (g j) → P j (cond b v (f j)) (cond b w (g j))
    at true e p = subst (λ (i : ℕ). P i v w) (sym (e refl)) a
    at false e p = p
