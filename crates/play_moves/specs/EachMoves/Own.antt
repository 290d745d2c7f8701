-- Whose call each entry of a history is of: one begins where its caller has none under way, and each step, reply and end is of one that its caller has.
use Rattle.std.specs.Prelude.{◌≡◌, ℕ, Bool, true, false, List}
use Rattle.std.specs.List.{list_any}
use Rattle.run_schedules.specs.Runs.Same.{is_same}
use Rattle.run_schedules.specs.Deeds.Deeds.{Begins, Deed, Entry, Replies, Steps, Stops, moment, named}

module _ {K V : Type 0} where
  -- this caller has a call under way
  abbrev pub has_call : ℕ → List (Entry K V) → Bool
  has_call i log = list_any (λ c. is_same c.caller (named i)) (moment log).calls

  -- a deed finds the call that it is of; where it begins one, it finds none of that caller
  abbrev pub FindsItsCall : List (Entry K V) → Deed K V → Type 0
  FindsItsCall log (Begins i slot map call) = has_call i log ≡ false
  FindsItsCall log (Steps i) = has_call i log ≡ true
  FindsItsCall log (Replies i reply) = has_call i log ≡ true
  FindsItsCall log (Stops i) = has_call i log ≡ true
  FindsItsCall log deed = Unit {0}

  abbrev pub IsOfItsCall : List (Entry K V) → Entry K V → Type 0
  IsOfItsCall log e = FindsItsCall log e.deed
