-- Logs of effects that the law of reclamation refuses, each beside one that it lets through. Slot 0 and the blocks 7, a pair, and 5, a table.
use Rattle.std.proofs.Common.{◌≡◌, true, false, List, [], ◌∷◌, inl, inr, refl, arith}
use Rattle.seize_moves.specs.Given.SeizeLaw.{Effect, Entered, Left, Made, Linked, Unlinked, Deferred, Retired, Taken, Dropped, Ended, LeftOver, reachable, holds, is_over, IsSound}

-- block 7 is linked, and taken out while a section is open
abbrev out : List Effect
out = Unlinked 7 ∷ Linked 7 3 ∷ Entered 0 ∷ []

-- and handed to the collector
abbrev handed : List Effect
handed = Retired 7 ∷ out

handed_is_sound : IsSound handed
handed_is_sound = (refl, refl, tt)

-- the section holds it until it ends
held : holds 0 7 handed ≡ true
held = refl

held_no_more : holds 0 7 (Left 0 ∷ handed) ≡ false
held_no_more = refl

-- one that begins after it was taken out does not hold it
entered_later : holds 0 7 (Entered 0 ∷ Left 0 ∷ handed) ≡ false
entered_later = refl

-- one that begins between its taking out and its retirement does, and one that begins after both does not
open_at_its_retirement : holds 1 7 (Retired 7 ∷ Entered 1 ∷ out) ≡ true
open_at_its_retirement = refl

begun_after_it : holds 1 7 (Entered 1 ∷ handed) ≡ false
begun_after_it = refl

-- the end of its owner leaves it held
ended_held : holds 0 7 (Ended 3 ∷ out) ≡ true
ended_held = refl

-- a block in use as its owner ends is over: it is taken away at once
abbrev ended : List Effect
ended = LeftOver 7 [] ∷ Unlinked 7 ∷ Ended 3 ∷ Linked 7 3 ∷ Entered 0 ∷ []

over : IsSound (Dropped 7 ∷ ended)
over = (refl, inl refl, (refl, (λ c e. grind (arith, e)), tt))

-- and the number means another block when it is made anew
over_no_more : is_over 7 (Linked 7 3 ∷ Made 7 ∷ Dropped 7 ∷ ended) ≡ false
over_no_more = refl

-- wrong: the block had been taken out before, and the section is still open
dropped_while_held : IsSound (Dropped 7 ∷ LeftOver 7 [] ∷ Ended 3 ∷ Entered 1 ∷ out) → ⊥
dropped_while_held h = elim h.1 as (λ _. ⊥) [
  | inl over ↦ cc over
  | inr free ↦ let a = free 0 in cc a
]

-- wrong: the block is left over, and its owner has not ended
left_by_another : IsSound (LeftOver 7 [] ∷ Ended 4 ∷ out) → ⊥
left_by_another h = let a = h.0 in cc

-- wrong: its number is given to a new block while the section holds it
made_while_held : IsSound (Made 7 ∷ out) → ⊥
made_while_held h = let a = h.0 0 in cc

-- wrong: the block is reclaimed while the section is open
taken_too_early : IsSound (Taken 7 ∷ handed) → ⊥
taken_too_early h = let a = h.2 0 in cc

-- wrong: it is reclaimed while a section is open that could not reach it, but was open as it was retired
taken_beside_it : IsSound (Taken 7 ∷ Left 0 ∷ Retired 7 ∷ Entered 1 ∷ out) → ⊥
taken_beside_it h = let a = h.2 1 in cc

-- wrong: it is reclaimed while it can be reached again
taken_in_reach : IsSound (Taken 7 ∷ Deferred 7 5 ∷ Retired 7 ∷ Linked 5 3 ∷ []) → ⊥
taken_in_reach h = let a = h.1 in cc

-- wrong: it is reclaimed twice
taken_twice : IsSound (Taken 7 ∷ Taken 7 ∷ Left 0 ∷ handed) → ⊥
taken_twice h = let a = h.0 in cc

-- wrong: it is reclaimed and was not retired
taken_unretired : IsSound (Taken 7 ∷ Left 0 ∷ out) → ⊥
taken_unretired h = let a = h.0 in cc

-- wrong: it is retired while it can be reached
pub retired_in_reach : IsSound (Retired 7 ∷ Linked 7 3 ∷ []) → ⊥
retired_in_reach h = let a = h.0 in cc

-- wrong: it is retired twice
retired_twice : IsSound (Retired 7 ∷ handed) → ⊥
retired_twice h = let a = h.1 in cc

-- wrong: a block that was linked is dropped like one that never was
dropped_once_linked : IsSound (Dropped 7 ∷ Left 0 ∷ out) → ⊥
dropped_once_linked h = let a = h.0 in cc

-- pair 7 is put behind table 5: it can be reached through the table, until that is taken out
abbrev behind : List Effect
behind = Deferred 7 5 ∷ Linked 7 3 ∷ Linked 5 3 ∷ Entered 0 ∷ []

reached_through_it : reachable 7 behind ≡ true
reached_through_it = refl

out_with_it : reachable 7 (Unlinked 5 ∷ behind) ≡ false
out_with_it = refl

-- wrong: the pair is retired while its table can be reached
retired_behind_table : IsSound (Retired 7 ∷ behind) → ⊥
retired_behind_table h = let a = h.0 in cc

-- wrong: the table's end gives the pair back, too, inside a section that could reach it
deferred_while_held : IsSound (Dropped 7 ∷ LeftOver 5 (7 ∷ []) ∷ Unlinked 5 ∷ Ended 3 ∷ behind) → ⊥
deferred_while_held h = elim h.1 as (λ _. ⊥) [
  | inl over ↦ cc over
  | inr free ↦ let a = free 0 in cc a
]

-- wrong: both are left over while the table can be reached
left_in_reach : IsSound (LeftOver 5 (7 ∷ []) ∷ Ended 3 ∷ behind) → ⊥
left_in_reach h = let a = (h.1 5 refl).0 in cc

-- wrong: a block is left over that was retired
left_and_retired : IsSound (LeftOver 7 [] ∷ Ended 3 ∷ handed) → ⊥
left_and_retired h = let a = (h.1 7 refl).1 in cc
