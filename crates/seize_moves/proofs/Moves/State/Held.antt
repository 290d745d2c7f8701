-- An open section goes on through all that happens save its end, and holds what it holds until then, or until that is taken away.
use Rattle.std.proofs.Common.{◌≡◌, ℕ, true, List, [], ◌∷◌, ◌++◌, arith}
use Rattle.seize.specs.Law.{Effect, Entered, Left, Made, Linked, Unlinked, Deferred, Retired, Taken, Dropped, Ended, LeftOver, holds}
use Rattle.seize_moves.proofs.Moves.State.Logs.{held_open}

-- the effect ends no section of this slot, and takes no block away that a section may hold
abbrev pub NotLeft : ℕ → Effect → Type 0
NotLeft s (Left t) = t ≡ s → ⊥
NotLeft s (Dropped c) = ⊥
NotLeft s _ = Unit {0}

-- and none of these does
abbrev pub NoneLeft : ℕ → List Effect → Type 0
NoneLeft s [] = Unit {0}
NoneLeft s (e ∷ effects) = NotLeft s e × NoneLeft s effects

-- what an open section holds it goes on holding, also where it is entered once more
pub held_on : (s b : ℕ) (e : Effect) (log : List Effect) → NotLeft s e → holds s b log ≡ true → holds s b (e ∷ log) ≡ true
held_on s b (Entered t) log n h = grind (arith, h)
held_on s b (Left t) log n h = grind (arith, n, h)
held_on s b (Made c) log n h = h
held_on s b (Linked c w) log n h = let o = held_open s b log h in grind (arith, o, h)
held_on s b (Deferred c t) log n h = let o = held_open s b log h in grind (arith, o, h)
held_on s b (Unlinked c) log n h = h
held_on s b (Retired c) log n h = let o = held_open s b log h in grind (arith, o, h)
held_on s b (Taken c) log n h = h
held_on s b (Dropped c) log n h = absurd n
held_on s b (Ended w) log n h = h
held_on s b (LeftOver c further) log n h = h

pub held_through : (s b : ℕ) (effects log : List Effect) → NoneLeft s effects → holds s b log ≡ true → holds s b (effects ++ log) ≡ true
held_through s b [] log n h = h
held_through s b (e ∷ effects) log n h = held_on s b e (effects ++ log) n.0 (held_through s b effects log n.1 h)

-- where another block is taken away
pub held_beside : (s b c : ℕ) (log : List Effect) → (b ≡ c → ⊥) → holds s b log ≡ true → holds s b (Dropped c ∷ log) ≡ true
held_beside s b c log other h = grind (arith, other, h)
