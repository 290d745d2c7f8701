-- Whether one of so many is such.
use Rattle.std.proofs.Common.{◌≡◌, ℕ, zero, suc, ◌<◌, Bool, true, false, cond, inl, inr, refl, arith, ap, sym, ◌∙◌}
use Rattle.std.proofs.lemmas.Bool.{cases_eq}

pub any_below : ℕ → (ℕ → Bool) → Bool
any_below zero f = false
any_below (suc n) f = cond (f n) true (any_below n f)

pub either : (b c : Bool) → c ≡ true → cond b true c ≡ true
either true c h = refl
either false c h = h

pub any_in : (n : ℕ) (f : ℕ → Bool) (k : ℕ) → k < n → f k ≡ true → any_below n f ≡ true
unfolding any_below
any_in zero f k l is = absurd (omega (arith, l))
any_in (suc n) f k l is = elim (cases_eq k n) as (λ _. cond (f n) true (any_below n f) ≡ true) [
  | inl e ↦ ap (λ (b : Bool). cond b true (any_below n f)) (ap f (sym e) ∙ is)
  | inr ne ↦ either (f n) (any_below n f) (any_in n f k (omega (arith, l, ne)) is)
]

abbrev Found : ℕ → (ℕ → Bool) → Type 0
Found n f = (k : ℕ) × (k < n) × (f k ≡ true)

found : (n : ℕ) (f : ℕ → Bool) (b : Bool) → f n ≡ b → (any_below n f ≡ true → Found n f) → cond b true (any_below n f) ≡ true → Found (suc n) f
found n f true is later h = (n, (let l : n < suc n = omega arith in l), is)
found n f false is later h = let r = later h in (r.0, (let l = r.1 in omega (arith, l)), r.2)

pub any_out : (n : ℕ) (f : ℕ → Bool) → any_below n f ≡ true → (k : ℕ) × (k < n) × (f k ≡ true)
unfolding any_below
any_out zero f h = absurd (cc h)
any_out (suc n) f h = found n f (f n) refl (λ e. any_out n f e) h
