-- What is behind all roots, one after another, is what is told to be left over, in that order.
use Rattle.std.specs.Prelude.{◌≡◌, ◌⊎◌, ◌<◌, ◌≤◌, ◌==◌, ◌||◌, ℕ, zero, suc, nat_lt, Bool, true, false, List, [], ◌∷◌, ◌++◌, flat_map, map, if◌then◌else◌}
use Rattle.std.proofs.Common.{refl, ap, sym, ◌∙◌, inl, inr, arith, eqb-true}
use Rattle.std.proofs.lemmas.Bool.{eq-eqb, le-ltb, lt-ltb}
use Rattle.std.proofs.lemmas.List.{append-nil, append_assoc}
use Rattle.run_debts.specs.Given.SchedulesLists.{is_among}
use Rattle.run_debts.specs.Given.SchedulesMoment.{Remains}
use Rattle.run_debts.specs.Given.EffectsDeclared.role.Role.{Role}
use Rattle.run_debts.specs.Given.EffectsDeclared.role.Role.TheVariants as role
use Rattle.run_debts.specs.Given.SeizeReclaimsRoots.{all_lists}
use Rattle.run_waiting.specs.Remains.Remains.{AscendFrom, left_at}
use Rattle.run_debts.proofs.Given.General.{map_append as each_two}

-- what is told of the roots below this one, where roots ascend
abbrev upto : ℕ → List Remains → List ℕ
upto n [] = []
upto n (x ∷ rs) = if nat_lt x.root n then x.pairs ++ upto n rs else []

-- which are all, if none is told of another root
abbrev all_pairs : List Remains → List ℕ
all_pairs rs = flat_map (λ r. r.pairs) rs

lies : (a n : ℕ) → (a < n) ⊎ ((a ≡ n) ⊎ (n < a))
lies zero zero = inr (inl refl)
lies zero (suc n) = inl (omega arith)
lies (suc a) zero = inr (inr (omega arith))
lies (suc a) (suc n) = elim (lies a n) as (λ _. (suc a < suc n) ⊎ ((suc a ≡ suc n) ⊎ (suc n < suc a))) [
  | inl lt ↦ inl (omega (arith, lt))
  | inr (inl e) ↦ inr (inl (ap (λ (k : ℕ). suc k) e))
  | inr (inr gt) ↦ inr (inr (omega (arith, gt)))
]

upto_none : (n k : ℕ) (rs : List Remains) → n ≤ k → AscendFrom k rs → upto n rs ≡ []
upto_none n k [] le up = refl
upto_none n k (x ∷ rs) le up = ap (λ (q : Bool). if q then x.pairs ++ upto n rs else []) (le-ltb x.root n (let from = up.0 in omega (arith, from, le)))

other_root : (a n : ℕ) → (a ≡ n → ⊥) → (a == n) ≡ false
other_root a n ne = by (a == n) refl
  where
    by : (q : Bool) → (a == n) ≡ q → (a == n) ≡ false
    by true e = absurd (ne (eqb-true a n e))
    by false e = e

left_above : (n k : ℕ) (rs : List Remains) → n < k → AscendFrom k rs → left_at n rs ≡ []
left_above n k [] lt up = refl
left_above n k (x ∷ rs) lt up =
    let from = up.0 in
    ap (λ (q : Bool). if q then x.pairs else left_at n rs) (other_root x.root n (λ e. omega (arith, e, from, lt))) ∙ left_above n (suc x.root) rs (omega (arith, from, lt)) up.1

one_more : (n k : ℕ) (rs : List Remains) → AscendFrom k rs → upto (suc n) rs ≡ upto n rs ++ left_at n rs
one_more n k [] up = refl
one_more n k (x ∷ rs) up = by (lies x.root n) (one_more n (suc x.root) rs up.1)
  where
    Here : Bool → Bool → Bool → Type 0
    Here p q e = (if p then x.pairs ++ upto (suc n) rs else []) ≡ (if q then x.pairs ++ upto n rs else []) ++ (if e then x.pairs else left_at n rs)

    as_so : (p q e : Bool) → nat_lt x.root (suc n) ≡ p → nat_lt x.root n ≡ q → (x.root == n) ≡ e → Here p q e → upto (suc n) (x ∷ rs) ≡ upto n (x ∷ rs) ++ left_at n (x ∷ rs)
    as_so p q e is_p is_q is_e its =
        ap (λ (z : Bool). if z then x.pairs ++ upto (suc n) rs else []) is_p
        ∙ its
        ∙ sym (ap (λ (z : Bool). (if z then x.pairs ++ upto n rs else []) ++ left_at n (x ∷ rs)) is_q ∙ ap (λ (z : Bool). (if q then x.pairs ++ upto n rs else []) ++ (if z then x.pairs else left_at n rs)) is_e)

    by : (x.root < n) ⊎ ((x.root ≡ n) ⊎ (n < x.root)) → upto (suc n) rs ≡ upto n rs ++ left_at n rs → upto (suc n) (x ∷ rs) ≡ upto n (x ∷ rs) ++ left_at n (x ∷ rs)
    by (inl lt) ih =
        as_so true true false (lt-ltb x.root (suc n) (omega (arith, lt))) (lt-ltb x.root n lt) (other_root x.root n (λ e. omega (arith, e, lt)))
        (ap (λ (l : List ℕ). x.pairs ++ l) ih ∙ sym (append_assoc x.pairs (upto n rs) (left_at n rs)))
    by (inr (inl e)) ih =
        as_so true false true (lt-ltb x.root (suc n) (omega (arith, e))) (le-ltb x.root n (omega (arith, e))) (eq-eqb x.root n e)
        (ap (λ (l : List ℕ). x.pairs ++ l) (upto_none (suc n) (suc x.root) rs (omega (arith, e)) up.1) ∙ append-nil x.pairs)
    by (inr (inr gt)) ih =
        as_so false false false (le-ltb x.root (suc n) (omega (arith, gt))) (le-ltb x.root n (omega (arith, gt))) (other_root x.root n (λ e. omega (arith, e, gt)))
        (sym (left_above n (suc x.root) rs (omega (arith, gt)) up.1))

upto_all : (n : ℕ) (rs : List Remains) → ((r : ℕ) → is_among r (map (λ x. x.root) rs) ≡ true → r < n) → upto n rs ≡ all_pairs rs
upto_all n [] below = refl
upto_all n (x ∷ rs) below =
    ap (λ (q : Bool). if q then x.pairs ++ upto n rs else [])
    (lt-ltb x.root n (below x.root (ap (λ (q : Bool). q || is_among x.root (map (λ y. y.root) rs)) (eq-eqb x.root x.root refl))))
    ∙ ap (λ (l : List ℕ). x.pairs ++ l) (upto_all n rs (λ r among. below r (by (r == x.root) (is_among r (map (λ y. y.root) rs)) among)))
  where
    by : (p q : Bool) → q ≡ true → (p || q) ≡ true
    by true q e = refl
    by false q e = e

module _ (roles : ℕ → Role) (lists : ℕ → List ℕ) (rs : List Remains) (up : AscendFrom 0 rs) where
  so_far : (n : ℕ) → ((r : ℕ) → r < n → map roles (lists r) ≡ map role.Pair (left_at r rs)) → map roles (all_lists lists n) ≡ map role.Pair (upto n rs)
  so_far zero each = sym (ap (λ (ns : List ℕ). map role.Pair ns) (upto_none 0 0 rs (omega arith) up))
  so_far (suc n) each =
      each_two roles (all_lists lists n) (lists n)
      ∙ ap (λ (l : List Role). l ++ map roles (lists n)) (so_far n (λ r lt. each r (omega (arith, lt))))
      ∙ ap (λ (l : List Role). map role.Pair (upto n rs) ++ l) (each n (omega arith))
      ∙ sym (each_two role.Pair (upto n rs) (left_at n rs))
      ∙ sym (ap (λ (ns : List ℕ). map role.Pair ns) (one_more n 0 rs up))

  pub all_noted : (n : ℕ) → ((r : ℕ) → r < n → map roles (lists r) ≡ map role.Pair (left_at r rs)) → ((r : ℕ) → is_among r (map (λ x. x.root) rs) ≡ true → r < n)
      → map roles (all_lists lists n) ≡ map role.Pair (flat_map (λ r. r.pairs) rs)
  all_noted n each below = so_far n each ∙ ap (λ (ns : List ℕ). map role.Pair ns) (upto_all n rs below)
