-- What one caller begins, and a step of its row, leave the other rows as they were, and what users do leaves all rows.
use Rattle.std.specs.Prelude.{Option, Ok, Err}
use Rattle.std.proofs.Common.{◌≡◌, ℕ, refl, arith, subst, sym}
use Rattle.seize_moves.specs.Given.SeizeWordsOp.{Out, Found, Stored, Exchanged, Made, Taken, Roomed}
use Rattle.seize_moves.specs.Given.SeizeWordsMem.{Mem}
use Rattle.seize_moves.specs.Given.SeizeDeclared.advance.Advance.{Advance}
use Rattle.seize_moves.specs.Given.SeizeDeclared.advance.Advance.TheVariants as progress
use Rattle.seize_moves.specs.Given.SeizeDeclared.rows.settle.Settle.{Settle}
use Rattle.seize_moves.specs.Given.SeizeDeclared.rows.settle.Settled.{Settled}
use Rattle.seize_moves.specs.Given.SeizeDeclared.rows.settle.Settled.TheVariants.{Goes, Waits, Gave, Done}
use Rattle.seize_moves.specs.Given.SeizeDeclared.rows.register.Register.{Register}
use Rattle.seize_moves.specs.Given.SeizeDeclared.rows.defer.Defer.{Defer}
use Rattle.seize_moves.specs.Given.SeizeWorld.{World, Row, Rests, Registers, Enters, Settles, Leaves, Defers, Frees, Event, Begin, Step, Makes, Drops, Links, Parts, Unlinks, Rewrites, Operates, Chooses, Request, Register', Enter', Leave', LeaveOwned, Refresh, Unregister', Retire, Flush, Defer', Begins, Happens, Steps', settles_on, registers_on, defers_on, made_by, with_at, LeavesOver, Relinks, Clears, Ends}
use Rattle.seize_moves.specs.Given.SeizeSequence.{IsBetween}

pub with_here : {X : Type 0} (f : ℕ → X) (k : ℕ) (v : X) → with_at f k v k ≡ v
with_here f k v = grind arith

pub with_other : {X : Type 0} (f : ℕ → X) (k j : ℕ) (v : X) → (j ≡ k → ⊥) → with_at f k v j ≡ f j
with_other f k j v ne = grind (arith, ne)

module _ {T : Type 0} where
  -- nobody else has a row under way
  abbrev pub OthersRest : ℕ → World T → Type 0
  OthersRest i w = (j : ℕ) → (j ≡ i → ⊥) → w.row j ≡ Rests

module _ {T : Type 0} (defers : T → Option ℕ) (size : ℕ) (w w2 : World T) where
  -- the row of another caller is the same
  abbrev Same : ℕ → ℕ → World T → Type 0
  Same i j v = v.row j ≡ w.row j

  module _ (i j : ℕ) (ne : j ≡ i → ⊥) where
    other : (row : Row) → with_at w.row i row j ≡ w.row j
    other row = with_other w.row i j row ne

    pub begins_others : (request : Request) → Begins defers size i request w w2 → w2.row j ≡ w.row j
    begins_others (Register' enters) b = subst (λ (v : World T). Same i j v) (sym b) (other _)
    begins_others (Enter' s) b = subst (λ (v : World T). Same i j v) (sym b.1) (other _)
    begins_others (Leave' s) b = subst (λ (v : World T). Same i j v) (sym b.1) (other _)
    begins_others (LeaveOwned s) b = subst (λ (v : World T). Same i j v) (sym b.1) (other _)
    begins_others (Refresh s) b = subst (λ (v : World T). Same i j v) (sym b.1) (other _)
    begins_others (Unregister' s) b = subst (λ (v : World T). Same i j v) (sym b.1) (other _)
    begins_others (Retire s c) b = subst (λ (v : World T). Same i j v) (sym b.2) (other _)
    begins_others (Flush s) b = subst (λ (v : World T). Same i j v) (sym b.1) (other _)
    begins_others (Defer' s c t) b = subst (λ (v : World T). Same i j v) (sym b.7) (other _)

    registers_others : (c d : Register) (m : Mem T) (o : Advance ℕ) → Same i j (registers_on w i c m (d, o))
    registers_others c d m progress.Goes = other (Registers d)
    registers_others c d m progress.Waits = other (Registers d)
    registers_others c d m (progress.Done s) = other Rests
    registers_others c d m (progress.Refused fault) = other Rests

    settles_others : (c d : Settle) (m : Mem T) (o : Settled T) → Same i j (settles_on w i c m (d, o))
    settles_others c d m Goes = other (Settles d)
    settles_others c d m Waits = other (Settles d)
    settles_others c d m (Gave value) = other (Settles d)
    settles_others c d m Done = other Rests

    defers_others : (s : ℕ) (d : Defer) (m : Mem T) (o : Advance Unit) → Same i j (defers_on w i s m (d, o))
    defers_others s d m progress.Goes = other (Defers s d)
    defers_others s d m progress.Waits = other (Defers s d)
    defers_others s d m (progress.Done u) = other Rests
    defers_others s d m (progress.Refused fault) = other (Defers s d)

    pub steps_others : (row : Row) → Steps' defers i row w w2 → w2.row j ≡ w.row j
    steps_others Rests s = absurd s
    steps_others (Registers c) s = subst (λ (v : World T). Same i j v) (sym s.3) (registers_others c s.1.0 s.0 s.1.1)
    steps_others (Enters c) s = subst (λ (v : World T). Same i j v) (sym s.3) (other Rests)
    steps_others (Settles c) s = subst (λ (v : World T). Same i j v) (sym s.3) (settles_others c s.1.0 s.0 s.1.1)
    steps_others (Leaves c) s = subst (λ (v : World T). Same i j v) (sym s.3) (other _)
    steps_others (Defers t c) s = subst (λ (v : World T). Same i j v) (sym s.3) (defers_others t s.1.0 s.0 s.1.1)
    steps_others (Frees c) s = subst (λ (v : World T). Same i j v) (sym s.3) (other Rests)

  made_rows : (i : ℕ) (m : Mem T) (out : Out T) → (made_by defers w i m out).row ≡ w.row
  made_rows i m (Found x) = refl
  made_rows i m Stored = refl
  made_rows i m (Exchanged r) = refl
  made_rows i m (Made (Ok b)) = refl
  made_rows i m (Made (Err b)) = refl
  made_rows i m (Taken x) = refl
  made_rows i m (Roomed r) = refl

  pub users_rows : (e : Event T) → IsBetween e → Happens defers size e w w2 → w2.row ≡ w.row
  users_rows (Begin i request) u e = absurd u
  users_rows (Step i) u e = absurd u
  users_rows (Makes i value words) u e = subst (λ (v : World T). v.row ≡ w.row) (sym e.4) (made_rows i e.1 e.0)
  users_rows (Drops i b) u e = subst (λ (v : World T). v.row ≡ w.row) (sym e.4) refl
  users_rows (Links i b o) u e = subst (λ (v : World T). v.row ≡ w.row) (sym e.1) refl
  users_rows (Parts i b) u e = subst (λ (v : World T). v.row ≡ w.row) (sym e.1) refl
  users_rows (Unlinks i b) u e = subst (λ (v : World T). v.row ≡ w.row) (sym e.1) refl
  users_rows (Rewrites i b value) u e = subst (λ (v : World T). v.row ≡ w.row) (sym e.5) refl
  users_rows (Operates op) u e = subst (λ (v : World T). v.row ≡ w.row) (sym e.4) refl
  users_rows (Ends i o) u e = subst (λ (v : World T). v.row ≡ w.row) (sym e) refl
  users_rows (LeavesOver i b further) u e = subst (λ (v : World T). v.row ≡ w.row) (sym e.4) refl
  users_rows (Relinks i b word) u e = subst (λ (v : World T). v.row ≡ w.row) (sym e.4) refl
  users_rows (Clears i b) u e = subst (λ (v : World T). v.row ≡ w.row) (sym e.5) refl
  users_rows (Chooses choice) u e = subst (λ (v : World T). v.row ≡ w.row) (sym e) refl
