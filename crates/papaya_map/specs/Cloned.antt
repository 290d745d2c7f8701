-- That a map was made with clones of the pairs of another one.
use Rattle.std.specs.Prelude.{◌≡◌, ℕ, Bool, List, [], Option, None}
use Rattle.std.specs.List.{AllZip}
use Rattle.std.specs.declared.hash.Hash as hashing
use Rattle.papaya_map.specs.declared.map.HashMap.{HashMap}
use Rattle.papaya_sessions.specs.Extended.{PutsAll, PutsPair}
use Rattle.papaya_sessions.specs.Given.CallersDeclared.caller.MapCaller.{MapCaller}
use Rattle.papaya_sessions.specs.Given.Onlookers.{HasTold}
use Rattle.papaya_sessions.specs.OneMap.{MapCounted, MapWasShown}
use Rattle.seize_words.specs.declared.fault.Fault.{Fault}

-- one of those who share this map
abbrev pub IsOn : {K V S : Type 0} {h : hashing.Ghosts K} → HashMap K V S h → MapCaller K V S → Type 0
IsOn map c = (c.blocks.now ≡ map.home.blocks) × (c.seat.view.map ≡ map.seat.view.map)

-- this pair is a clone of that one, by what are clones of a key and of a value
abbrev pub IsPairClone : {K V : Type 0} → (K → K → Type 0) → (V → V → Type 0) → K × V → K × V → Type 0
IsPairClone key_clone value_clone pair x = key_clone pair.0 x.0 × value_clone pair.1 x.1

module _ {K V S : Type 0} (same : K → K → Bool) (hash : S → K → ℕ) (key_clone : K → K → Type 0) (value_clone : V → V → Type 0) where
  -- Where none was refused by then, none was before, and a clone of this pair was stored.
  abbrev pub PutsClone : K × V → Option Fault → MapCaller K V S → Option Fault → MapCaller K V S → Type 0
  PutsClone pair refused c now n = (now ≡ None) → (refused ≡ None) × ((x : K × V) × IsPairClone key_clone value_clone pair x × PutsPair same hash x c n)

  -- The session has gone over its map, and one of another map, which was this one, has stored a clone of each pair that the walk has told, in their order, and nothing else.
  pub record HasClonedInto (first c n : MapCaller K V S) : Type 0 where
    pub pairs : List (K × V)
    pub told : HasTold same hash pairs c.seat.view n.seat.view
    pub shown : MapWasShown same hash c n
    pub clones : List (K × V)
    pub each : AllZip (IsPairClone key_clone value_clone) pairs clones
    pub last : MapCaller K V S
    pub stored : PutsAll (PutsPair same hash) clones first last

  -- That one is of such a map, and had made no call before.
  abbrev pub HasCloned : (MapCaller K V S → Type 0) → MapCaller K V S → MapCaller K V S → Type 0
  HasCloned Its c n = (first : MapCaller K V S) × Its first × (first.seat.view.calls ≡ []) × HasClonedInto first c n

  -- The session has counted its map before.
  abbrev pub HasCountedAndCloned : (MapCaller K V S → Type 0) → MapCaller K V S → MapCaller K V S → Type 0
  HasCountedAndCloned Its c n = (count : ℕ) × (u : MapCaller K V S) × MapCounted same hash count c u × HasCloned Its u n

  -- A session of this map, which had made no call before, has done so for that one.
  abbrev pub IsClone : {h g : hashing.Ghosts K} → HashMap K V S h → HashMap K V S g → Type 0
  IsClone this that = (first : MapCaller K V S) × (last : MapCaller K V S) × IsOn this first × (first.seat.view.calls ≡ []) × HasCountedAndCloned (IsOn that) first last
