-- What a session has done on its map, by the caller that it has: this knows the map, and the calls that it has begun, the newest first, each with what it has told last.
use Rattle.std.specs.Prelude.{◌≡◌, ℕ, Bool, Option, Some, None, Err, is_some}
use Rattle.play_moves.specs.Given.ActsActs.{Wanted, ContainsKey, Get}
use Rattle.play_moves.specs.Given.ErrandsCalling.{outcome_of}
use Rattle.play_moves.specs.Given.ErrandsLooking.{HasRun, found_of}
use Rattle.threads_updates.specs.Given.CallsShown.{IsLent, IsShown}
use Rattle.threads_updates.specs.Given.CallersDeclared.caller.MapCaller.{MapCaller}
use Rattle.seize_words.specs.declared.fault.Fault.{Fault}

module _ {K V S : Type 0} where
  -- it is on the same map, in the same memory
  pub record IsOnSameMap (c n : MapCaller K V S) : Type 0 where
    pub memory : n.blocks ≡ c.blocks
    pub map : n.seat.view.map ≡ c.seat.view.map

  -- and has made no call more
  pub record HasMadeNone (c n : MapCaller K V S) : Type 0 where
    pub same : IsOnSameMap c n
    pub calls : n.seat.view.calls ≡ c.seat.view.calls

module _ {K V S : Type 0} (same : K → K → Bool) (hash : S → K → ℕ) where
  -- it has made one call more, which was to do this, and was refused so
  abbrev pub HasBeenRefused : Wanted K V → Fault → MapCaller K V S → MapCaller K V S → Type 0
  HasBeenRefused wanted fault c n = HasRun same hash wanted (outcome_of (Err fault)) c.seat.view n.seat.view

module _ {K V S : Type 0} (same : K → K → Bool) (hash : S → K → ℕ) (key : K) where
  -- it has made one call more, which looks this key up, and was answered that it is not there, or which word links to its pair
  abbrev pub HasLookedUp : Option ℕ → MapCaller K V S → MapCaller K V S → Type 0
  HasLookedUp found c n = HasRun same hash (Get key) (found_of found) c.seat.view n.seat.view

  -- and lends the value of that pair, whose key is equal
  abbrev pub HasGot : Option V → MapCaller K V S → MapCaller K V S → Type 0
  HasGot None c n = HasLookedUp None c n
  HasGot (Some value) c n = (word : ℕ) × HasLookedUp (Some word) c n × IsShown same key n word × IsLent same hash n word value

  -- it has made one call more, which asks whether the key is there, and was answered so
  abbrev pub HasSought : Bool → MapCaller K V S → MapCaller K V S → Type 0
  HasSought there c n = (found : Option ℕ) × HasRun same hash (ContainsKey key) (found_of found) c.seat.view n.seat.view × (there ≡ is_some found)
