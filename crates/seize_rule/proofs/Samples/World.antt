-- A run of the world worked by hand: a slot is taken and entered, a block is made, linked, unlinked and retired, and reclaimed as the slot leaves.
use Rattle.std.specs.Prelude.{Option, None, Ok}
use Rattle.std.proofs.Common.{◌≡◌, ℕ, false, List, [], ◌∷◌, refl, arith}
use Rattle.seize_moves.specs.Given.SeizeWordsOp.{Found, Stored, Exchanged, Made, Taken, Roomed}
use Rattle.seize_moves.specs.Given.SeizeLaw.{Effect, Entered, Left, Linked, Unlinked, Retired}
use Rattle.seize_moves.specs.Given.SeizeLaw as law
use Rattle.seize_moves.specs.Given.SeizeWorld.{World, Event, Begin, Step, Makes, Links, Unlinks, Register', Enter', Leave', Retire, Runs, at_start}

-- values put nothing
abbrev plain : ℕ → Option ℕ
plain value = None

abbrev events : List (Event ℕ)
events = Begin 0 (Register' false) ∷ Step 0 ∷ Step 0 ∷ Step 0 ∷ Begin 0 (Enter' 0) ∷ Step 0 ∷ Makes 0 7 0 ∷ Links 0 1 3 ∷ Unlinks 0 1 ∷ Begin 0 (Retire 0 1) ∷ Step 0 ∷ Step 0 ∷ Step 0 ∷ Step 0 ∷ Step 0 ∷ Step 0 ∷ Step 0 ∷ Step 0 ∷ Step 0 ∷ Step 0 ∷ Step 0 ∷ Step 0 ∷ Step 0 ∷ Step 0 ∷ Step 0 ∷ Step 0 ∷ Step 0 ∷ Begin 0 (Leave' 0) ∷ Step 0 ∷ Step 0 ∷ Step 0 ∷ Step 0 ∷ Step 0 ∷ Step 0 ∷ Step 0 ∷ Step 0 ∷ []

-- what happened, the newest first
abbrev happened : List Effect
happened = law.Taken 1 ∷ Left 0 ∷ Retired 1 ∷ Unlinked 1 ∷ Linked 1 3 ∷ law.Made 1 ∷ Entered 0 ∷ []

comes_to_pass : (w : World ℕ) × Runs plain 1 events (at_start plain 1) w × (w.log ≡ happened)
comes_to_pass = (_, (_, (refl, refl), (_, (_, _, (Roomed (Ok tt), (tt, refl), refl), refl), (_, (_, _, (Found 0, (refl, refl), refl), refl), (_, (_, _, (Exchanged (Ok 0), ((refl, refl), refl), refl), refl), (_, (refl, (refl, refl)), (_, (_, _, (Stored, (tt, refl), refl), refl), (_, (Made (Ok 1), _, tt, (((refl, omega arith), omega arith), refl), refl), (_, ((0, refl), refl), (_, (tt, refl), (_, (refl, (tt, (0, refl), refl)), (_, (_, _, (Found 0, (refl, refl), refl), refl), (_, (_, _, (Exchanged (Ok 0), ((refl, refl), refl), refl), refl), (_, (_, _, (Found 0, (refl, refl), refl), refl), (_, (_, _, (Stored, (tt, refl), refl), refl), (_, (_, _, (Stored, (tt, refl), refl), refl), (_, (_, _, (Found 0, (refl, refl), refl), refl), (_, (_, _, (Found 3, (refl, refl), refl), refl), (_, (_, _, (Stored, (tt, refl), refl), refl), (_, (_, _, (Found 0, (refl, refl), refl), refl), (_, (_, _, (Found 0, (refl, refl), refl), refl), (_, (_, _, (Stored, (tt, refl), refl), refl), (_, (_, _, (Found 0, (refl, refl), refl), refl), (_, (_, _, (Stored, (tt, refl), refl), refl), (_, (_, _, (Exchanged (Ok 3), ((refl, refl), refl), refl), refl), (_, (_, _, (Found 0, (refl, refl), refl), refl), (_, (_, _, (Stored, (tt, refl), refl), refl), (_, (_, _, (refl, refl), refl), (_, (refl, (refl, refl)), (_, (_, _, (Found 2048, (refl, refl), refl), refl), (_, (_, _, (Found 3, (refl, refl), refl), refl), (_, (_, _, (Found 2048, (refl, refl), refl), refl), (_, (_, _, (Found 1, (refl, refl), refl), refl), (_, (_, _, (Found 0, (refl, refl), (7, refl, refl)), refl), (_, (_, _, (Taken 7, (refl, refl), refl), refl), (_, (_, _, (refl, refl), refl), (_, (_, _, (refl, refl), refl), refl)))))))))))))))))))))))))))))))))))), refl)
