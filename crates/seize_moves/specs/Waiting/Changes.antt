-- What a change of the waiting sets retires, which slots are active after it, and what it keeps: every number is reclaimed or still there.
use Rattle.std.specs.Prelude.{◌≡◌, ℕ, ◌+◌, not, filter, List, [], ◌∷◌}
use Rattle.seize.specs.WaitingSets.{Further, Sets, After, Change, Enters, Leaves, Retires, Defers, Ends, ReclaimsAll, with_slot, without, is_one_of}
use Rattle.seize_moves.specs.Waiting.Held.{count, all_held, bare, Tidy}

-- what a change retires
abbrev pub numbers_of : Change → List ℕ
numbers_of (Retires s m) = m ∷ []
numbers_of _ = []

-- the active slots after a change
abbrev pub active_after : Change → List ℕ → List ℕ
active_after (Enters s) active = with_slot s active
active_after (Leaves s) active = without s active
active_after ReclaimsAll active = []
active_after _ active = active

-- a slot that enters isn't active, and no value is put behind another, nor taken from there as what that was of ends
abbrev pub MayChange : Change → Sets → Type 0
MayChange (Enters s) w = count s w.active ≡ 0
MayChange (Defers n behind) w = ⊥
MayChange (Ends n) w = ⊥
MayChange _ w = Unit {0}

-- what isn't put behind one of these numbers
abbrev pub kept : List ℕ → List Further → List Further
kept numbers further = filter (λ f. not (is_one_of f.behind numbers)) further

-- the sets, with this behind others
abbrev pub with_further : Sets → List Further → Sets
with_further w further = record w { further = further }

-- The sets are tidy after, save for what waits behind others, and these slots active. What was held, with these numbers, is reclaimed or held. What
-- waits behind others is what did so before, without what was behind a number that is reclaimed.
pub record Keeps (w : Sets) (more active : List ℕ) (a : After) : Type 0 where
  pub tidy : Tidy (bare a.sets)
  pub active_now : a.sets.active ≡ active
  pub balance : (n : ℕ) → count n a.reclaimed + all_held n a.sets ≡ all_held n w + count n more
  pub behind : a.sets.further ≡ kept a.reclaimed w.further
