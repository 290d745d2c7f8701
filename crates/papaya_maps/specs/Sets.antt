-- What a call on a set that shares its collector has come to: one on the map whose keys are its elements.
use Rattle.std.specs.Prelude.{◌≡◌, ℕ, Bool, Option, is_some, not, option_map}
use Rattle.papaya_maps.specs.Calls.{MapCameToHaveOn, MapGaveUpOn, MapHadOn}
use Rattle.threads_callers.specs.Given.ViewsDeclared.view.View.{View}
use Rattle.threads_callers.specs.declared.caller.MapCaller.{MapCaller}

module _ {K S : Type 0} (same : K → K → Bool) (hash : S → K → ℕ) (guard owner : MapCaller K (Unit {0}) S) (key : K) (v w : View K (Unit {0}) S) where
  -- it has asked for this key, and the set had an element that equals it, or none,
  abbrev pub SetHadOn : Bool → Type 0
  SetHadOn there = (pair : Option (K × Unit {0})) × (there ≡ is_some pair) × MapHadOn same hash guard owner key pair v w

  -- and that element is lent
  abbrev pub SetLentOn : Option K → Type 0
  SetLentOn element = (pair : Option (K × Unit {0})) × (element ≡ option_map (λ p. p.0) pair) × MapHadOn same hash guard owner key pair v w

  -- it has put this key into the set, which came to have it as a new element, or in the place of one that equals it
  abbrev pub SetCameToHaveOn : Bool → Type 0
  SetCameToHaveOn new = (old : Option (K × Unit {0})) × (new ≡ not (is_some old)) × MapCameToHaveOn same hash guard owner key tt old v w

  -- it has taken the element out that equals this key, or the set had none
  abbrev pub SetGaveUpOn : Bool → Type 0
  SetGaveUpOn there = (pair : Option (K × Unit {0})) × (there ≡ is_some pair) × MapGaveUpOn same hash guard owner key pair v w
