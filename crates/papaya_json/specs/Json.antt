-- What a session has written in JSON of what a walk has told, and what a JSON value says of a map or a set that is read of it.
use Rattle.std.specs.Prelude.{◌≡◌, ◌⊎◌, ℕ, Bool, List, [], None, map}
use Rattle.std.specs.List.{All}
use Rattle.seize_words.specs.declared.fault.Fault.{Fault}
use Rattle.seize_words.specs.declared.fault.Fault.TheVariants.{Memory}
use Rattle.serde_json.specs.Data.{Data, Items, Members, no_members, array, object}
use Rattle.serde_json.specs.Find.{as_array, as_object}
use Rattle.map_forms.specs.Arrays.{AreItemsOf, FirstBad, IsArrayOf}
use Rattle.map_forms.specs.Objects.{FirstFault, members_with}
use Rattle.map_forms.specs.declared.fault.JsonFault.{JsonFault}
use Rattle.map_forms.specs.declared.fault.JsonFault.TheVariants.{NotAnArray, NotAnObject}
use Rattle.map_forms.specs.Reading.{AreMembersOf, IsRefused}
use Rattle.papaya.specs.OneSet.{PutsKey}
use Rattle.papaya.specs.Given.CallersDeclared.caller.MapCaller.{MapCaller}
use Rattle.papaya.specs.Given.Onlookers.{HasTold}
use Rattle.papaya.specs.Given.SessionsExtended.{PutsAll, PutsPair}
use Rattle.papaya.specs.Given.SessionsOneMap.{MapWasShown, WasRefused}
use Rattle.papaya.specs.Given.Swept.{walks}

-- why a value was not read
abbrev pub Why : Type 0
Why = JsonFault

-- It is no object, of which a map is read,
abbrev pub IsNoObject : JsonFault → Data → Type 0
IsNoObject why d = (why ≡ NotAnObject) × (as_object d ≡ None)

-- or no array, of which a set is.
abbrev pub IsNoArray : JsonFault → Data → Type 0
IsNoArray why d = (why ≡ NotAnArray) × (as_array d ≡ None)

-- Nothing was written: the walk was refused so, or it has ended, and there was no memory for what it has told.
abbrev pub WasNotWritten : {K V S : Type 0} → (K → K → Bool) → (S → K → ℕ) → Fault → MapCaller K V S → MapCaller K V S → Type 0
WasNotWritten same hash fault c n = WasRefused same hash walks fault c n ⊎ ((fault ≡ Memory) × MapWasShown same hash c n)

-- What keys and values are in range, and what each is written as.
module _ {K V : Type 0} (key_in : K → Type 0) (text : K → List ℕ) (value_in : V → Type 0) (value : V → Data) where
  -- It is an object, and this is its first fault, or something was refused.
  abbrev pub HasFault : JsonFault → Data → Type 0
  HasFault why d = (ms : Members) × (d ≡ object ms) × (FirstFault key_in text value_in value why ms ⊎ IsRefused why)

  module _ {S : Type 0} (same : K → K → Bool) (hash : S → K → ℕ) where
    -- The session has gone over its map, and this is the object of the pairs that it was told, put there in their order: of a key that was told of twice, as its pair was replaced
    -- meanwhile, the later one.
    pub record IsWrittenAs (written : Data) (c n : MapCaller K V S) : Type 0 where
      pub pairs : List (K × V)
      pub told : HasTold same hash pairs c.seat.view n.seat.view
      pub shown : MapWasShown same hash c n
      pub ranged : All (λ x. key_in x.0 × value_in x.1) pairs
      pub is : written ≡ object (members_with text value no_members pairs)

    -- A session of this map, which had made no call before, has stored the pairs that the members of this object stand for, in their order, and nothing else.
    pub record IsFilledBy (Its : MapCaller K V S → Type 0) (read : Data) : Type 0 where
      pub members : Members
      pub is : read ≡ object members
      pub pairs : List (K × V)
      pub each : AreMembersOf key_in text value_in value pairs members
      pub first : MapCaller K V S
      pub its : Its first
      pub none : first.seat.view.calls ≡ []
      pub last : MapCaller K V S
      pub stored : PutsAll (PutsPair same hash) pairs first last

-- What elements are in range, and what each is written as.
module _ {K : Type 0} (in_range : K → Type 0) (value : K → Data) where
  -- It is an array, and this is its first fault, or something was refused.
  abbrev pub HasBadItem : JsonFault → Data → Type 0
  HasBadItem why d = (ds : Items) × (d ≡ array ds) × (FirstBad in_range value why ds ⊎ IsRefused why)

  module _ {S : Type 0} (same : K → K → Bool) (hash : S → K → ℕ) where
    -- The session has gone over its set, and this is the array of the elements that it was told, in the order of the bytes of their texts.
    pub record AreWrittenAs (written : Data) (c n : MapCaller K (Unit {0}) S) : Type 0 where
      pub pairs : List (K × Unit {0})
      pub told : HasTold same hash pairs c.seat.view n.seat.view
      pub shown : MapWasShown same hash c n
      pub ranged : All (λ x. in_range x.0) pairs
      pub is : IsArrayOf value (map (λ x. x.0) pairs) written

    -- A session of this set, which had made no call before, has put the elements there for which the items of this array stand, in their order, and nothing else.
    pub record IsFilledWith (Its : MapCaller K (Unit {0}) S → Type 0) (read : Data) : Type 0 where
      pub elements : List K
      pub each : AreItemsOf in_range value elements read
      pub first : MapCaller K (Unit {0}) S
      pub its : Its first
      pub none : first.seat.view.calls ≡ []
      pub last : MapCaller K (Unit {0}) S
      pub stored : PutsAll (PutsKey same hash) elements first last
