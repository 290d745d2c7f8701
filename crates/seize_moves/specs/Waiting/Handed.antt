-- What a slot hands over within a section: what it retires, and what it puts behind others.
use Rattle.std.specs.Prelude.{◌≡◌, ℕ, ◌+◌, List, [], ◌∷◌}
use Rattle.seize.specs.WaitingSets.{Further, Sets, After, Change, Enters, Leaves, Refreshes, Retires, Flushes, Defers, Ends, ReclaimsAll}
use Rattle.seize_moves.specs.Waiting.Held.{count, all_held, bare, Tidy}

-- what changes put into the sets
abbrev pub put_by : List Change → List ℕ
put_by [] = []
put_by (Retires s n ∷ changes) = n ∷ put_by changes
put_by (Defers n behind ∷ changes) = n ∷ put_by changes
put_by (Enters s ∷ changes) = put_by changes
put_by (Leaves s ∷ changes) = put_by changes
put_by (Refreshes s ∷ changes) = put_by changes
put_by (Flushes s ∷ changes) = put_by changes
put_by (Ends n ∷ changes) = put_by changes
put_by (ReclaimsAll ∷ changes) = put_by changes

-- what waits behind others after they put theirs there, the newest first
abbrev pub further_by : List Change → List Further → List Further
further_by [] further = further
further_by (Defers n behind ∷ changes) further = further_by changes (record { number = n; behind = behind } ∷ further)
further_by (Retires s n ∷ changes) further = further_by changes further
further_by (Enters s ∷ changes) further = further_by changes further
further_by (Leaves s ∷ changes) further = further_by changes further
further_by (Refreshes s ∷ changes) further = further_by changes further
further_by (Flushes s ∷ changes) further = further_by changes further
further_by (Ends n ∷ changes) further = further_by changes further
further_by (ReclaimsAll ∷ changes) further = further_by changes further

-- the change is this slot's, and hands over
abbrev pub HandsOverBy : ℕ → Change → Type 0
HandsOverBy slot (Retires s n) = s ≡ slot
HandsOverBy slot (Defers n behind) = Unit {0}
HandsOverBy slot _ = ⊥

abbrev pub HandOverBy : ℕ → List Change → Type 0
HandOverBy slot [] = Unit {0}
HandOverBy slot (c ∷ changes) = HandsOverBy slot c × HandOverBy slot changes

-- Nothing was reclaimed. The sets have what these changes put into them, and no more, and what they put behind others is there.
pub record WaitsNow (changes : List Change) (w : Sets) (a : After) : Type 0 where
  pub quiet : a.reclaimed ≡ []
  pub tidy : Tidy (bare a.sets)
  pub active_now : a.sets.active ≡ w.active
  pub held_now : (n : ℕ) → all_held n a.sets ≡ all_held n w + count n (put_by changes)
  pub behind : a.sets.further ≡ further_by changes w.further
