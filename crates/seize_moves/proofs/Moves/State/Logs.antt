-- What the log says of sections: a section that holds a block is open, and an open section holds what can be reached.
use Rattle.std.proofs.Common.{◌≡◌, ℕ, true, List, [], ◌∷◌, arith, Bool, false, cond, eqb}
use Rattle.seize.specs.Law.{Effect, Entered, Left, Made, Linked, Unlinked, Deferred, Retired, Taken, Dropped, Ended, LeftOver, reachable, is_open, holds, Nowhere, is_somewhere, where_is}

-- a section that holds a block is open
pub held_open : (t c : ℕ) (log : List Effect) → holds t c log ≡ true → is_open t log ≡ true
held_open t c [] h = grind arith
held_open t c (Entered u ∷ r) h = one t c u r h (held_open t c r)
  where
    one : (t c u : ℕ) (r : List Effect) → holds t c (Entered u ∷ r) ≡ true → (holds t c r ≡ true → is_open t r ≡ true) → is_open t (Entered u ∷ r) ≡ true
    one t c u r h ih = grind arith
held_open t c (Left u ∷ r) h = one t c u r h (held_open t c r)
  where
    one : (t c u : ℕ) (r : List Effect) → holds t c (Left u ∷ r) ≡ true → (holds t c r ≡ true → is_open t r ≡ true) → is_open t (Left u ∷ r) ≡ true
    one t c u r h ih = grind arith
held_open t c (Made u ∷ r) h = held_open t c r h
held_open t c (Linked u w ∷ r) h = one t c u r h (held_open t c r)
  where
    one : (t c u : ℕ) (r : List Effect) → holds t c (Linked u w ∷ r) ≡ true → (holds t c r ≡ true → is_open t r ≡ true) → is_open t r ≡ true
    one t c u r h ih = grind arith
held_open t c (Deferred u v ∷ r) h = one t c u v r h (held_open t c r)
  where
    one : (t c u v : ℕ) (r : List Effect) → holds t c (Deferred u v ∷ r) ≡ true → (holds t c r ≡ true → is_open t r ≡ true) → is_open t r ≡ true
    one t c u v r h ih = grind arith
held_open t c (Ended w ∷ r) h = held_open t c r h
held_open t c (LeftOver u further ∷ r) h = held_open t c r h
held_open t c (Unlinked u ∷ r) h = held_open t c r h
held_open t c (Retired u ∷ r) h = one t c u r h (held_open t c r)
  where
    one : (t c u : ℕ) (r : List Effect) → holds t c (Retired u ∷ r) ≡ true → (holds t c r ≡ true → is_open t r ≡ true) → is_open t r ≡ true
    one t c u r h ih = grind arith
held_open t c (Taken u ∷ r) h = held_open t c r h
held_open t c (Dropped u ∷ r) h = held_open t c r (one (eqb c u) h)
  where
    one : (q : Bool) → cond q false (holds t c r) ≡ true → holds t c r ≡ true
    one true h = absurd (cc h)
    one false h = h

-- an open section holds what can be reached
pub reached_held : (t c : ℕ) (log : List Effect) → reachable c log ≡ true → is_open t log ≡ true → holds t c log ≡ true
reached_held t c [] h o = grind arith
reached_held t c (Entered u ∷ r) h o = one t c u r h o (reached_held t c r)
  where
    one : (t c u : ℕ) (r : List Effect) → reachable c (Entered u ∷ r) ≡ true → is_open t (Entered u ∷ r) ≡ true
        → (reachable c r ≡ true → is_open t r ≡ true → holds t c r ≡ true) → holds t c (Entered u ∷ r) ≡ true
    one t c u r h o ih = grind arith
reached_held t c (Left u ∷ r) h o = one t c u r h o (reached_held t c r)
  where
    one : (t c u : ℕ) (r : List Effect) → reachable c (Left u ∷ r) ≡ true → is_open t (Left u ∷ r) ≡ true
        → (reachable c r ≡ true → is_open t r ≡ true → holds t c r ≡ true) → holds t c (Left u ∷ r) ≡ true
    one t c u r h o ih = grind arith
reached_held t c (Made u ∷ r) h o = reached_held t c r h o
reached_held t c (Linked u w ∷ r) h o = one t c u r h o (reached_held t c r)
  where
    one : (t c u : ℕ) (r : List Effect) → reachable c (Linked u w ∷ r) ≡ true → is_open t r ≡ true
        → (reachable c r ≡ true → is_open t r ≡ true → holds t c r ≡ true) → holds t c (Linked u w ∷ r) ≡ true
    one t c u r h o ih = grind arith
reached_held t c (Unlinked u ∷ r) h o = one t c u r h o (reached_held t c r)
  where
    one : (t c u : ℕ) (r : List Effect) → reachable c (Unlinked u ∷ r) ≡ true → is_open t r ≡ true
        → (reachable c r ≡ true → is_open t r ≡ true → holds t c r ≡ true) → holds t c r ≡ true
    one t c u r h o ih = grind arith
reached_held t c (Deferred u v ∷ r) h o = one t c u v r h o (reached_held t c r)
  where
    one : (t c u v : ℕ) (r : List Effect) → reachable c (Deferred u v ∷ r) ≡ true → is_open t r ≡ true
        → (reachable c r ≡ true → is_open t r ≡ true → holds t c r ≡ true) → holds t c (Deferred u v ∷ r) ≡ true
    one t c u v r h o ih = grind arith
reached_held t c (Ended w ∷ r) h o = reached_held t c r h o
reached_held t c (LeftOver u further ∷ r) h o = reached_held t c r h o
reached_held t c (Retired u ∷ r) h o = one t c u r h o (reached_held t c r)
  where
    one : (t c u : ℕ) (r : List Effect) → reachable c r ≡ true → is_open t r ≡ true
        → (reachable c r ≡ true → is_open t r ≡ true → holds t c r ≡ true) → holds t c (Retired u ∷ r) ≡ true
    one t c u r h o ih = grind arith
reached_held t c (Taken u ∷ r) h o = reached_held t c r h o
reached_held t c (Dropped u ∷ r) h o = one (eqb c u) h (λ k. reached_held t c r k o)
  where
    one : (q : Bool) → is_somewhere (cond q Nowhere (where_is c r)) ≡ true → (reachable c r ≡ true → holds t c r ≡ true) → cond q false (holds t c r) ≡ true
    one true h ih = absurd (cc h)
    one false h ih = ih h
