-- The law of reclamation on logs worked by hand, newest first: what it accepts, and what it refuses.
use Rattle.std.proofs.Common.{◌≡◌, ℕ, false, List, [], ◌∷◌, inl, inr, refl, arith}
use Rattle.seize_moves.specs.Given.SeizeLaw.{Effect, Entered, Left, Linked, Unlinked, Deferred, Retired, Taken, Dropped, Ended, LeftOver, IsSound, holds}

-- a block is retired while two slots are active, and reclaimed once both have left
abbrev reclaimed_after_both_left : List Effect
reclaimed_after_both_left = Taken 7 ∷ Left 1 ∷ Left 0 ∷ Retired 7 ∷ Unlinked 7 ∷ Linked 7 3 ∷ Entered 1 ∷ Entered 0 ∷ []

nobody_holds_it : (s : ℕ) → holds s 7 (Left 1 ∷ Left 0 ∷ Retired 7 ∷ Unlinked 7 ∷ Linked 7 3 ∷ Entered 1 ∷ Entered 0 ∷ []) ≡ false
nobody_holds_it s = grind arith

accepted_after_both_left : IsSound reclaimed_after_both_left
accepted_after_both_left = (refl, refl, nobody_holds_it, (refl, refl, tt))

-- and not while one of them is still active, which could reach it
refused_while_one_is_active : IsSound (Taken 7 ∷ Left 0 ∷ Retired 7 ∷ Unlinked 7 ∷ Linked 7 3 ∷ Entered 1 ∷ Entered 0 ∷ []) → ⊥
refused_while_one_is_active p = absurd (grind (arith, p.2 1))

-- a slot that was entered after the block was unlinked can't reach it
accepted_beside_a_later_section : IsSound (Taken 7 ∷ Entered 0 ∷ Retired 7 ∷ Unlinked 7 ∷ Linked 7 3 ∷ [])
accepted_beside_a_later_section = (refl, refl, (λ s. grind arith), (refl, refl, tt))

-- nor twice
refused_retired_twice : IsSound (Retired 7 ∷ Retired 7 ∷ Unlinked 7 ∷ Linked 7 3 ∷ []) → ⊥
refused_retired_twice p = absurd (grind (arith, p.1))

-- nor reclaimed without that
refused_not_retired : IsSound (Taken 7 ∷ Unlinked 7 ∷ Linked 7 3 ∷ []) → ⊥
refused_not_retired p = absurd (grind (arith, p.0))

-- a pair 7 that is deferred on a table 5 is retired after the table was reclaimed
accepted_deferred : IsSound (Taken 7 ∷ Retired 7 ∷ Taken 5 ∷ Left 0 ∷ Retired 5 ∷ Unlinked 5 ∷ Deferred 7 5 ∷ Linked 7 3 ∷ Linked 5 3 ∷ Entered 0 ∷ [])
accepted_deferred = (refl, refl, (λ s. grind arith), (refl, refl, (refl, refl, (λ s. grind arith), (refl, refl, tt))))

-- and not while the table can be reached
refused_while_its_table_stands : IsSound (Retired 7 ∷ Deferred 7 5 ∷ Linked 7 3 ∷ Linked 5 3 ∷ []) → ⊥
refused_while_its_table_stands p = absurd (grind (arith, p.0))

-- what has ended is dropped at once, and what was deferred on it once the section has ended that could reach it
accepted_ended : IsSound (Dropped 7 ∷ Left 0 ∷ Dropped 5 ∷ LeftOver 5 (7 ∷ []) ∷ Unlinked 5 ∷ Ended 3 ∷ Deferred 7 5 ∷ Linked 7 3 ∷ Linked 5 3 ∷ Entered 0 ∷ [])
accepted_ended = (refl, inr (λ s. grind arith), (refl, inl refl, (refl, (λ c e. grind (arith, e)), tt)))

-- and not where it was linked and has not ended
refused_dropped_once_linked : IsSound (Dropped 5 ∷ Unlinked 5 ∷ Linked 5 3 ∷ []) → ⊥
refused_dropped_once_linked p = absurd (grind (arith, p.0))
