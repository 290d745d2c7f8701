-- Numbers that are compared one after another.
use Rattle.std.specs.Prelude.{◌-◌, ◌++◌, List, [], ◌∷◌, max}
use Rattle.std.proofs.Common.{◌≡◌, ℕ, suc, ◌<◌, ◌≤◌, ◌⊎◌, inl, inr, arith}
use Rattle.std.proofs.lemmas.Bool.{cases_lt}
use Rattle.many_calls.specs.Given.PointsMeasures.{IsBelow}
use Rattle.map_measures.specs.Falls.Room.{last_turn, tables_to_come}

-- the first number does not rise, and those behind it are lower
pub at_most : {A : Type 0} (x y : ℕ) → x ≤ y → A → (x < y) ⊎ ((x ≡ y) × A)
at_most {A} x y most below =
    elim (cases_lt x y) as (λ _. (x < y) ⊎ ((x ≡ y) × A)) [
      | inl l ↦ inl l
      | inr h ↦ inr (omega (arith, h, most), below)
    ]

-- lower numbers stay so, whatever follows them
pub below_followed : (xs ys us vs : List ℕ) → IsBelow xs ys → IsBelow (xs ++ us) (ys ++ vs)
below_followed [] ys us vs below = absurd below
below_followed (x ∷ xs) [] us vs below = absurd below
below_followed (x ∷ xs) (y ∷ ys) us vs (inl l) = inl l
below_followed (x ∷ xs) (y ∷ ys) us vs (inr h) = inr (h.0, below_followed xs ys us vs h.1)

-- no more tables can be linked than before, where none is planned behind the last turn but one that was
pub no_more : (past past2 turn turn2 : ℕ) → past ≤ past2 → turn2 ≤ max last_turn turn → tables_to_come past2 turn2 ≤ tables_to_come past turn
no_more past past2 turn turn2 grows planned = by (max last_turn turn) (max last_turn turn2) (omega arith)
  where
    by : (x x2 : ℕ) → x2 ≤ x → suc x2 - past2 ≤ suc x - past
    by x x2 l = omega (arith, l, grows)

-- and fewer, where one was that was planned
pub fewer : (past past2 turn turn2 : ℕ) → past < past2 → past ≤ turn → turn2 ≤ last_turn → tables_to_come past2 turn2 < tables_to_come past turn
fewer past past2 turn turn2 grows linked planned = by (max last_turn turn) (max last_turn turn2) (omega arith) (omega arith)
  where
    by : (x x2 : ℕ) → x2 ≤ x → past ≤ x → suc x2 - past2 < suc x - past
    by x x2 l m = omega (arith, l, m, grows)
