-- What waits behind others, and what of it stays as numbers are reclaimed.
use Rattle.std.specs.Prelude.{filter, map, not, ◌==◌, ◌||◌}
use Rattle.std.proofs.Common.{◌≡◌, ◌≢◌, ℕ, zero, suc, ◌+◌, ◌≤◌, Bool, true, false, cond, List, [], ◌∷◌, ◌++◌, refl, ap, sym, subst, arith, ◌∙◌}
use Rattle.std.proofs.lemmas.Bool.{eq-eqb}
use Rattle.seize.specs.WaitingSets.{Further, further_of, is_one_of}
use Rattle.seize_moves.specs.Waiting.Held.{same, count, weight_put, Every}
use Rattle.seize_moves.specs.Waiting.Changes.{kept}
use Rattle.seize_moves.proofs.Waiting.Counts.{not_among}

-- what is kept isn't behind one of these
kept_others : (numbers : List ℕ) (further : List Further) → Every (λ f. count f.behind numbers ≡ 0) (kept numbers further)
kept_others numbers [] = tt
kept_others numbers (f ∷ further) = at (is_one_of f.behind numbers) refl (kept_others numbers further)
  where
    at : (y : Bool) → is_one_of f.behind numbers ≡ y → Every (λ g. count g.behind numbers ≡ 0) (kept numbers further)
        → Every (λ g. count g.behind numbers ≡ 0) (cond (not y) (f ∷ kept numbers further) (kept numbers further))
    at true q ih = ih
    at false q ih = (not_among f.behind numbers q, ih)

-- nor are those after a change that keeps them
pub behind_others : (numbers : List ℕ) (after before : List Further) → after ≡ kept numbers before → Every (λ f. count f.behind numbers ≡ 0) after
behind_others numbers after before same = subst (λ (l : List Further). Every (λ f. count f.behind numbers ≡ 0) l) (sym same) (kept_others numbers before)

-- what stays

pub kept_nil : (further : List Further) → kept [] further ≡ further
kept_nil [] = refl
kept_nil (f ∷ further) = ap (λ (l : List Further). f ∷ l) (kept_nil further)

-- one number first
pub kept_more : (n : ℕ) (numbers : List ℕ) (further : List Further) → kept numbers (filter (λ f. not (f.behind == n)) further) ≡ kept (n ∷ numbers) further
kept_more n numbers [] = refl
kept_more n numbers (f ∷ further) = at (f.behind == n) (is_one_of f.behind numbers) refl (kept_more n numbers further)
  where
    rest : List Further
    rest = filter (λ f. not (f.behind == n)) further

    at : (y z : Bool) → is_one_of f.behind numbers ≡ z → kept numbers rest ≡ kept (n ∷ numbers) further
        → kept numbers (cond (not y) (f ∷ rest) rest) ≡ cond (not (y || z)) (f ∷ kept (n ∷ numbers) further) (kept (n ∷ numbers) further)
    at true z e ih = ih
    at false true e ih = rw e ih
    at false false e ih = rw e (ap (λ (l : List Further). f ∷ l) ih)

-- these numbers, and then those
pub kept-append : (numbers more : List ℕ) (further : List Further) → kept more (kept numbers further) ≡ kept (numbers ++ more) further
kept-append [] more further = ap (kept more) (kept_nil further)
kept-append (n ∷ numbers) more further =
    let rest = filter (λ f. not (f.behind == n)) further in
    ap (kept more) (sym (kept_more n numbers further)) ∙ kept-append numbers more rest ∙ kept_more n (numbers ++ more) further

-- what is listed behind a number

-- of numbers put behind others one is among those behind its own, and further ones are among those of more
first_further : (t : ℕ) (f : Further) (further : List Further) → count f.number (further_of t (f ∷ further)) ≡ cond (f.behind == t) (same f.number f.number) 0 + count f.number (further_of t further)
first_further t f further = by (f.behind == t)
  where
    by : (b : Bool) → count f.number (map (λ (g : Further). g.number) (cond b (f ∷ filter (λ (g : Further). g.behind == t) further) (filter (λ (g : Further). g.behind == t) further)))
        ≡ cond b (same f.number f.number) 0 + count f.number (further_of t further)
    by true = omega arith
    by false = omega arith

more_further : (n t : ℕ) (f : Further) (further : List Further) → count n (further_of t further) ≤ count n (further_of t (f ∷ further))
more_further n t f further = by (f.behind == t)
  where
    by : (b : Bool) → count n (further_of t further)
        ≤ count n (map (λ (g : Further). g.number) (cond b (f ∷ filter (λ (g : Further). g.behind == t) further) (filter (λ (g : Further). g.behind == t) further)))
    by true = omega arith
    by false = omega arith

its_further : (f : Further) (further : List Further) → count f.number (further_of f.behind (f ∷ further)) ≢ 0
its_further f further z =
    let a = first_further f.behind f further in
    let here : same f.number f.number ≡ 1 = grind arith in
    let is = ap {B = ℕ} (λ (b : Bool). cond b (same f.number f.number) 0) (eq-eqb f.behind f.behind refl) in
    omega (arith, a, here, is, z)

pub none_further : (n : ℕ) (further : List Further) → ((t : ℕ) → count n (further_of t further) ≡ 0) → weight_put (same n) further ≡ 0
none_further n [] h = refl
none_further n (f ∷ further) h = by (same n f.number) refl (none_further n further (λ t. let a = h t in let b = more_further n t f further in omega (arith, a, b)))
  where
    by : (k : ℕ) → same n f.number ≡ k → weight_put (same n) further ≡ 0 → same n f.number + weight_put (same n) further ≡ 0
    by zero e ih = omega (arith, e, ih)
    by (suc k) e ih = absurd (its_further f further (sym (ap (λ (x : ℕ). count x (further_of f.behind (f ∷ further))) is) ∙ h f.behind))
      where
        is : n ≡ f.number
        is = grind (arith, e)

-- what holds for each that waits behind others
pub every_of : (P : Further → Type 0) (further : List Further) → ((f : Further) → count f.number (further_of f.behind further) ≢ 0 → P f) → Every P further
every_of P [] h = tt
every_of P (f ∷ further) h = (
  h f (its_further f further),
  every_of P further (λ g ne. h g (λ z. ne (let a = more_further g.number g.behind f further in omega (arith, a, z)))),
)

-- so each is listed behind its own
pub each_listed : (further : List Further) → Every (λ f. count f.number (further_of f.behind further) ≡ 0 → ⊥) further
each_listed further = every_of (λ f. count f.number (further_of f.behind further) ≡ 0 → ⊥) further (λ f listed. listed)
