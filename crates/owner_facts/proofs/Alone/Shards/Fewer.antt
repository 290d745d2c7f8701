-- Numbers that are told apart by what they lead to are no more than those that they lead to.
use Rattle.std.proofs.Common.{◌≡◌, ℕ, zero, suc, ◌<◌, ◌≤◌, Bool, true, false, cond, eqb, eqb-true, refl, arith, sym, subst}
use Rattle.many_maps.specs.Given.RuleRule.{total}
use Rattle.owner_facts.specs.Alone.Counting.{one_if}

-- f without this one
abbrev without : (ℕ → Bool) → ℕ → ℕ → Bool
without f j i = cond (eqb i j) false (f i)

same_total : (f g : ℕ → Bool) (n : ℕ) → ((i : ℕ) → i < n → f i ≡ g i) → total one_if f n ≡ total one_if g n
same_total f g zero h = refl
same_total f g (suc n) h = let ih = same_total f g n (λ i l. h i (omega arith)) in let e = h n (omega arith) in rw e (omega (arith, ih))

without_other : (f : ℕ → Bool) (j n : ℕ) → n ≤ j → total one_if (without f j) n ≡ total one_if f n
without_other f j n l = same_total (without f j) f n (λ i m. grind (arith, l, m))

-- one less
less_step : (f : ℕ → Bool) (j n : ℕ) → j < suc n → f j ≡ true → (j < n → suc (total one_if (without f j) n) ≡ total one_if f n) → (b : Bool) → eqb n j ≡ b
    → suc (total one_if (without f j) (suc n)) ≡ total one_if f (suc n)
less_step f j n l is ih true e =
    let at = eqb-true n j e in
    let here : f n ≡ true = subst (λ (x : ℕ). f x ≡ true) (sym at) is in
    let rest = without_other f j n (omega (arith, at)) in rw e (rw here (omega (arith, rest)))
less_step f j n l is ih false e = let before = ih (grind (arith, e, l)) in rw e (omega (arith, before))

less_one : (f : ℕ → Bool) (j n : ℕ) → j < n → f j ≡ true → suc (total one_if (without f j) n) ≡ total one_if f n
less_one f j zero l is = absurd (omega (arith, l))
less_one f j (suc n) l is = less_step f j n l is (λ m. less_one f j n m is) (eqb n j) refl

-- where each leads
abbrev LeadTo : (ℕ → ℕ → Type 0) → (ℕ → Bool) → ℕ → (ℕ → Bool) → ℕ → Type 0
LeadTo R p a q b = (i : ℕ) → i < a → p i ≡ true → (j : ℕ) × (j < b) × (q j ≡ true) × R i j

abbrev AreApart : (ℕ → ℕ → Type 0) → ℕ → Type 0
AreApart R a = (i k j : ℕ) → i < a → k < a → R i j → R k j → i ≡ k

more_step : (R : ℕ → ℕ → Type 0) (p : ℕ → Bool) (a : ℕ) (q : ℕ → Bool) (b : ℕ) → LeadTo R p (suc a) q b → AreApart R (suc a)
    → ((q2 : ℕ → Bool) → LeadTo R p a q2 b → total one_if p a ≤ total one_if q2 b) → (x : Bool) → p a ≡ x → total one_if p (suc a) ≤ total one_if q b
more_step R p a q b to apart ih false e = let before = ih q (λ i l is. to i (omega arith) is) in rw e (omega (arith, before))
more_step R p a q b to apart ih true e =
    let d = to a (omega arith) e in
    let less = less_one q d.0 b d.1 d.2 in
    let before = ih (without q d.0) (λ i l is. (let f = to i (omega arith) is in
    (f.0, f.1, (let other : f.0 ≡ d.0 → i ≡ a = λ same. apart i a d.0 (omega arith) (omega arith) (subst (R i) same f.3) d.3 in grind (arith, other, f.2, l)), f.3))) in
    rw e (omega (arith, before, less))

pub no_more : (R : ℕ → ℕ → Type 0) (p : ℕ → Bool) (a : ℕ) (q : ℕ → Bool) (b : ℕ) → LeadTo R p a q b → AreApart R a → total one_if p a ≤ total one_if q b
no_more R p zero q b to apart = omega arith
no_more R p (suc a) q b to apart = more_step R p a q b to apart (λ q2 to2. no_more R p a q2 b to2 (λ i k j l m. apart i k j (omega arith) (omega arith))) (p a) refl

-- all of them
pub all_ones : (f : ℕ → Bool) (n : ℕ) → ((i : ℕ) → i < n → f i ≡ true) → total one_if f n ≡ n
all_ones f zero h = refl
all_ones f (suc n) h = let ih = all_ones f n (λ i l. h i (omega arith)) in let e = h n (omega arith) in rw e (omega (arith, ih))
