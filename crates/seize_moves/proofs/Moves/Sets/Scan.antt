-- The scan of a row that runs alone: the slots marked so far are those that are active, so that a try that closes marks all active slots.
use Rattle.std.proofs.Common.{◌≡◌, ℕ, ◌<◌, ◌≤◌, Bool, true, false, cond, eqb, refl, arith, subst, eqb-true}
use Rattle.std.proofs.lemmas.Bool.{eqb-false}
use Rattle.seize_moves.proofs.Moves.State.Ghost.{put, Debt, Unscanned, Marked, Gone, Skipped, Owing, Loose, Counted, State, is_active}
use Rattle.seize_moves.proofs.Moves.State.Rule.{Inv, SeenIs}
use Rattle.seize_moves.proofs.Moves.Sets.Shown.{waits}
use Rattle.seize_moves.proofs.Moves.State.Moves

-- no slot that the batch has marked has left since
abbrev pub NoneGone : ℕ → State → Type 0
NoneGone x m = (t : ℕ) → m.debt x t ≡ Gone → ⊥

pub record MarksActive (x : ℕ) (m : State) : Type 0 where
  pub marks : (t : ℕ) → t < m.seen x → waits (m.debt x t) ≡ is_active (m.head t)
  pub stay : NoneGone x m

pub begins_marking : (x : ℕ) (m : State) → ((t : ℕ) → SeenIs (m.debt x t) t (m.seen x)) → m.seen x ≡ 0 → MarksActive x m
begins_marking x m scanned e = record {
  marks = λ t l. absurd (omega (arith, e, l));
  stay = λ t gone. let p = subst (λ (d : Debt). SeenIs d t (m.seen x)) gone (scanned t) in omega (arith, e, p);
}

-- a debt that is put is another one
pub put_stay : (debt : ℕ → ℕ → Debt) (x u : ℕ) (v : Debt) → ((t : ℕ) → debt x t ≡ Gone → ⊥) → (v ≡ Gone → ⊥) → (t : ℕ) → put debt x (put (debt x) u v) x t ≡ Gone → ⊥
put_stay debt x u v none other t = here (eqb x x)
  where
    there : (q : Bool) → cond q v (debt x t) ≡ Gone → ⊥
    there true e = other e
    there false e = none t e

    here : (q : Bool) → cond q (put (debt x) u v) (debt x) t ≡ Gone → ⊥
    here true e = there (eqb t u) e
    here false e = none t e

pub skipped_marks : (x u : ℕ) (m : State) → m.seen x ≡ u → is_active (m.head u) ≡ false → MarksActive x m → MarksActive x (Moves.skipped m x u)
skipped_marks x u m e a h = record { marks = marks; stay = put_stay m.debt x u Skipped h.stay (λ e. cc e) }
  where
    at : (t : ℕ) → t < (Moves.skipped m x u).seen x → (b : Bool) → (b ≡ true → t ≡ u) → (b ≡ false → t ≡ u → ⊥) → eqb t u ≡ b → waits (put m.debt x (put (m.debt x) u Skipped) x t) ≡ is_active (m.head t)
    at t l true p q k = let r = p refl in grind (arith, r, a)
    at t l false p q k = let ne = q refl in let o = h.marks t (grind (arith, l, ne, e)) in grind (arith, k, o)

    marks : (t : ℕ) → t < (Moves.skipped m x u).seen x → waits ((Moves.skipped m x u).debt x t) ≡ is_active ((Moves.skipped m x u).head t)
    marks t l = at t l (eqb t u) (eqb-true t u) (eqb-false t u) refl

pub marked_marks : (x u : ℕ) (m : State) → m.seen x ≡ u → is_active (m.head u) ≡ true → MarksActive x m → MarksActive x (Moves.marked m x u)
marked_marks x u m e a h = record { marks = marks; stay = put_stay m.debt x u Marked h.stay (λ e. cc e) }
  where
    at : (t : ℕ) → t < (Moves.marked m x u).seen x → (b : Bool) → (b ≡ true → t ≡ u) → (b ≡ false → t ≡ u → ⊥) → eqb t u ≡ b → waits (put m.debt x (put (m.debt x) u Marked) x t) ≡ is_active (m.head t)
    at t l true p q k = let r = p refl in grind (arith, r, a)
    at t l false p q k = let ne = q refl in let o = h.marks t (grind (arith, l, ne, e)) in grind (arith, k, o)

    marks : (t : ℕ) → t < (Moves.marked m x u).seen x → waits ((Moves.marked m x u).debt x t) ≡ is_active ((Moves.marked m x u).head t)
    marks t l = at t l (eqb t u) (eqb-true t u) (eqb-false t u) refl

passed_waits : (d : Debt) → waits (Moves.passed d) ≡ waits d
passed_waits d = grind arith

-- the slots behind those seen were never taken
pub all_marked : (n x : ℕ) (m : State) → Inv n m → MarksActive x m → ((t : ℕ) → m.seen x ≤ t → t < n → is_active (m.head t) ≡ false)
    → (t : ℕ) → t < n → waits (Moves.passed (m.debt x t)) ≡ is_active (m.head t)
all_marked n x m inv h rest t l = at (m.debt x t) refl (passed_waits (m.debt x t))
  where
    seen_before : t < m.seen x → waits (Moves.passed (m.debt x t)) ≡ waits (m.debt x t) → waits (Moves.passed (m.debt x t)) ≡ is_active (m.head t)
    seen_before k p = let a = h.marks t k in cc

    at : (d : Debt) → m.debt x t ≡ d → waits (Moves.passed (m.debt x t)) ≡ waits (m.debt x t) → waits (Moves.passed (m.debt x t)) ≡ is_active (m.head t)
    at Unscanned e p = let a = rest t (grind (arith, inv.debts.scanned x t, e)) l in grind (arith, a, e)
    at Marked e p = seen_before (grind (arith, inv.debts.scanned x t, e)) p
    at Gone e p = seen_before (grind (arith, inv.debts.scanned x t, e)) p
    at Skipped e p = seen_before (grind (arith, inv.debts.scanned x t, e)) p
    at Owing e p = seen_before (grind (arith, inv.debts.scanned x t, e)) p
    at (Loose i) e p = seen_before (grind (arith, inv.debts.scanned x t, e)) p
    at Counted e p = seen_before (grind (arith, inv.debts.scanned x t, e)) p
