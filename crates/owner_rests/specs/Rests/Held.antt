-- What calls on a key have stored, by what they have done, and the pair that they met or put there.
use Rattle.std.specs.Prelude.{List, [], ◌∷◌, Option, Some, None, Result, Ok, Err}
use Rattle.owner_rests.specs.declared.change.Change.{Change}
use Rattle.owner_rests.specs.declared.change.Change.TheVariants as change
use Rattle.owner_rests.specs.declared.change.ComputedChange.{ComputedChange}
use Rattle.owner_rests.specs.declared.change.ComputedChange.TheVariants as compute

-- one pair, or none
abbrev pub as_list : {X : Type 0} → Option X → List X
as_list None = []
as_list (Some x) = x ∷ []

module _ {X : Type 0} where
  -- where a pair was stored, it is the one that is met there
  abbrev pub stored_as : Change → Option X → List X
  stored_as change.Stored met = as_list met
  stored_as change.Replaced met = as_list met
  stored_as _ met = []

  abbrev pub stored_in : {E : Type 0} → Result Change E → Option X → List X
  stored_in (Ok done) met = stored_as done met
  stored_in (Err e) met = []

  abbrev pub stored_computing : {T E : Type 0} → Result (ComputedChange T) E → Option X → List X
  stored_computing (Ok (compute.Changed done)) met = stored_as done met
  stored_computing (Ok (compute.Aborted end)) met = []
  stored_computing (Err e) met = []

  -- what was given is stored, unless the call was refused
  abbrev pub if_stored : {T E : Type 0} → Result T E → X → List X
  if_stored (Ok done) x = x ∷ []
  if_stored (Err e) x = []

  -- unless it was refused, or there was one already
  abbrev pub if_tried : {T F E : Type 0} → Result (Result T F) E → X → List X
  if_tried (Ok (Ok done)) x = x ∷ []
  if_tried (Ok (Err back)) x = []
  if_tried (Err e) x = []
