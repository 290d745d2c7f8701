-- What the waiting sets do as guards come and go, and pairs by their numbers and keys.
use Rattle.std.specs.Prelude.{ℕ, zero, suc, ◌==◌, Bool, false, List, [], slice_get, Option, Some, None, if◌then◌else◌}
use Rattle.run_schedules.specs.Runs.Present.{Present, guards_on}
use Rattle.papaya_raw.specs.Given.SeizeWaitingSets.{Change}

-- a slot is entered by the first guard there, and left and refreshed by the only one
abbrev pub if_first : ℕ → Present → List Change → List Change
if_first slot there changes = if guards_on slot there.guards == 0 then changes else []

abbrev pub if_only : ℕ → Present → List Change → List Change
if_only slot there changes = if guards_on slot there.guards == 1 then changes else []

module _ {K V : Type 0} where
  abbrev pub pair_at : List (K × V) → ℕ → Option (K × V)
  pair_at stored zero = None
  pair_at stored (suc place) = slice_get stored place

  -- the number's pair has a key of this class
  abbrev pub is_key : (K → K → Bool) → Option (K × V) → K → Bool
  is_key eq None q = false
  is_key eq (Some p) q = eq p.0 q
