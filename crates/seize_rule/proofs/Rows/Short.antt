-- The open batch of a slot is short while no row tries it.
use Rattle.std.proofs.Common.{◌≡◌, ℕ, ◌+◌, ◌<◌, ◌≤◌, ◌^◌, Bool, true, false, cond, eqb, refl, arith, subst, sym, eqb-true}
use Rattle.std.specs.Prelude.{if◌then◌else◌}
use Rattle.std.proofs.lemmas.Bool.{eq-eqb}
use Rattle.seize_moves.specs.Given.SeizeDeclared.rows.settle.Settle.{Settle}
use Rattle.seize_moves.specs.Given.SeizeDeclared.rows.settle.Settling.{Settling}
use Rattle.seize_moves.specs.Given.SeizeDeclared.rows.settle.Settling.TheVariants as at
use Rattle.seize_moves.specs.Given.SeizeDeclared.rows.leave.Leaving.{Leaving}
use Rattle.seize_moves.specs.Given.SeizeDeclared.rows.leave.Leaving.TheVariants as leaving
use Rattle.seize_moves.specs.Given.SeizeWorld.{Row, Settles, Leaves, with_at}
use Rattle.seize_moves.proofs.Moves.State.Ghost.{State, is_never}
use Rattle.seize_moves.proofs.Moves.State.Rule.{Keeps, open_length, retirals}

-- a try is under way
abbrev pub is_trying : Settling → Bool
is_trying (at.Scans slot block marks) = true
is_trying (at.Marks slot block marks) = true
is_trying (at.Marked slot block marks) = true
is_trying (at.Closes marks) = true
is_trying _ = false

abbrev pub settle_tries : Settle → ℕ → Bool
settle_tries c t = cond (eqb t c.slot) (is_trying c.stands) false

abbrev pub leave_tries : Leaving → ℕ → Bool
leave_tries (leaving.Settles settle) t = settle_tries settle t
leave_tries _ t = false

-- the row tries the open batch of slot t
abbrev pub tries_on : Row → ℕ → Bool
tries_on (Settles c) t = settle_tries c t
tries_on (Leaves c) t = leave_tries c.stands t
tries_on _ t = false

-- It is shorter than a batch that is tried, or than the number of slots; one that was never taken has none.
pub record IsShort (size : ℕ) (m : State) (t : ℕ) : Type 0 where
  pub below : (limit : ℕ) → size < 2 ^ 64 → 0 < limit → size ≤ limit → ((u : ℕ) → is_never (m.head u) ≡ false → u < limit) → open_length m t < limit
  pub untaken : is_never (m.head t) ≡ true → open_length m t ≡ 0

abbrev pub AllShort : ℕ → ℕ → State → (ℕ → Row) → Type 0
AllShort n size m row = (t : ℕ) → t < n → ((j : ℕ) → tries_on (row j) t ≡ false) → IsShort size m t

-- what a row's step leaves of it, where the row tries none itself after the step
abbrev pub StillShort : ℕ → ℕ → State → State → Row → Row → Type 0
StillShort n size m m2 row row2 = (t : ℕ) → t < n → tries_on row2 t ≡ false → (tries_on row t ≡ false → IsShort size m t) → IsShort size m2 t

-- a settling that tries nothing
pub calm : (c : Settle) (t : ℕ) → is_trying c.stands ≡ false → settle_tries c t ≡ false
calm c t e = one (eqb t c.slot)
  where
    one : (z : Bool) → cond z (is_trying c.stands) false ≡ false
    one true = e
    one false = refl

still_never : (a b : Bool) → (a ≡ false → b ≡ false) → b ≡ true → a ≡ true
still_never true b h e = refl
still_never false b h e = absurd (let k = h refl in cc (k, e))

-- no batch has grown
pub short_by : (n i s size : ℕ) (m m2 : State) → Keeps n i s m m2 → (t : ℕ) → open_length m2 t ≤ open_length m t → IsShort size m t → IsShort size m2 t
short_by n i s size m m2 k t le h = record {
  below = λ limit word pos big taken. let a = h.below limit word pos big (λ u e. taken u (k.taken_slots u e)) in omega (arith, a, le);
  untaken = λ e. let a = h.untaken (still_never (is_never (m.head t)) (is_never (m2.head t)) (k.taken_slots t) e) in omega (arith, a, le);
}

pub no_longer : (n i s : ℕ) (m m2 : State) → Keeps n i s m m2 → (t : ℕ) → t < n → retirals m2.log ≡ retirals m.log → open_length m2 t ≤ open_length m t
no_longer n i s m m2 k t l same = one (eqb t s) (k.lengths t l)
  where
    one : (z : Bool) → open_length m2 t + cond z (retirals m.log) 0 ≤ open_length m t + cond z (retirals m2.log) 0 → open_length m2 t ≤ open_length m t
    one true h = omega (arith, h, same)
    one false h = omega (arith, h)

pub other_no_longer : (n i s : ℕ) (m m2 : State) → Keeps n i s m m2 → (t : ℕ) → t < n → eqb t s ≡ false → open_length m2 t ≤ open_length m t
other_no_longer n i s m m2 k t l e = let h = rw e at (k.lengths t l) in omega (arith, h)

-- one block was retired
pub one_longer : (n i s : ℕ) (m m2 : State) → Keeps n i s m m2 → (t : ℕ) → t < n → retirals m2.log ≡ retirals m.log + 1 → open_length m2 t ≤ open_length m t + 1
one_longer n i s m m2 k t l same = one (eqb t s) (k.lengths t l)
  where
    one : (z : Bool) → open_length m2 t + cond z (retirals m.log) 0 ≤ open_length m t + cond z (retirals m2.log) 0 → open_length m2 t ≤ open_length m t + 1
    one true h = omega (arith, h, same)
    one false h = omega (arith, h)

-- nothing was retired, and the row tried none
pub still_short : (n i s size : ℕ) (m m2 : State) (row row2 : Row) → Keeps n i s m m2 → retirals m2.log ≡ retirals m.log → ((t : ℕ) → tries_on row t ≡ false)
    → StillShort n size m m2 row row2
still_short n i s size m m2 row row2 k same none t l e h = short_by n i s size m m2 k t (no_longer n i s m m2 k t l same) (h (none t))

-- all are short after a row's step
pub short_after : (n i size : ℕ) (m m2 : State) (rows : ℕ → Row) (row : Row) → AllShort n size m rows → StillShort n size m m2 (rows i) row → AllShort n size m2 (with_at rows i row)
short_after n i size m m2 rows row all still t l none = still t l (mine (none i)) (λ e. all t l (λ j. before j (none j) e (eqb j i) (eqb-true j i) refl))
  where
    mine : tries_on (with_at rows i row i) t ≡ false → tries_on row t ≡ false
    mine e = subst (λ (z : Bool). tries_on (if z then row else rows i) t ≡ false) (eq-eqb i i refl) e

    before : (j : ℕ) → tries_on (with_at rows i row j) t ≡ false → tries_on (rows i) t ≡ false → (y : Bool) → (y ≡ true → j ≡ i) → eqb j i ≡ y → tries_on (rows j) t ≡ false
    before j e f true is h = subst (λ (a : ℕ). tries_on (rows a) t ≡ false) (sym (is refl)) f
    before j e f false is h = subst (λ (z : Bool). tries_on (if z then row else rows j) t ≡ false) h e
