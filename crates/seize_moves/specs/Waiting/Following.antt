-- Changes of the waiting sets one after another, and the slots whose open batches they leave alone.
use Rattle.std.specs.Prelude.{◌≡◌, ℕ, List, [], ◌∷◌, ◌++◌}
use Rattle.seize.specs.WaitingSets.{Sets, Change, Enters, Leaves, Refreshes, Retires, Flushes, Defers, Ends, ReclaimsAll, changed}
use Rattle.seize_moves.specs.Waiting.Changes.{numbers_of, active_after, MayChange}

-- what they retire, in order
abbrev pub numbers_of_all : List Change → List ℕ
numbers_of_all [] = []
numbers_of_all (c ∷ changes) = numbers_of c ++ numbers_of_all changes

-- the active slots after them
abbrev pub active_after_all : List Change → List ℕ → List ℕ
active_after_all [] active = active
active_after_all (c ∷ changes) active = active_after_all changes (active_after c active)

-- each of them may come, after those before it
abbrev pub MayChangeAll : ℕ → List Change → Sets → Type 0
MayChangeAll batch_size [] w = Unit {0}
MayChangeAll batch_size (c ∷ changes) w = MayChange c w × MayChangeAll batch_size changes (changed batch_size c w).sets

-- the change is of another slot than this one, or of none
abbrev pub LeavesAlone : ℕ → Change → Type 0
LeavesAlone t (Enters s) = Unit {0}
LeavesAlone t (Leaves s) = t ≡ s → ⊥
LeavesAlone t (Refreshes s) = t ≡ s → ⊥
LeavesAlone t (Retires s n) = t ≡ s → ⊥
LeavesAlone t (Flushes s) = t ≡ s → ⊥
LeavesAlone t (Defers n behind) = Unit {0}
LeavesAlone t (Ends n) = Unit {0}
LeavesAlone t ReclaimsAll = ⊥
