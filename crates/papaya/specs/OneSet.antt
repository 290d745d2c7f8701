-- What a session of a set has done by one call more, and that its answer is so in one finite set, at a moment of that call: the keys of a map whose values are units.
use Rattle.std.specs.Prelude.{◌≡◌, ℕ, Bool, true, List, Option, not, option_map}
use Rattle.papaya_map.specs.Given.SessionsCompared.{HasComparedMaps, WasNotCompared}
use Rattle.papaya_map.specs.Given.SessionsOneMap.{MapCameToHave, MapCounted, MapGaveUp, MapHadOne, MapHadRoom, MapLookedEmpty, MapWasCleared, MapWasShown, MapWasSifted, WasRefused}
use Rattle.papaya_map.specs.Given.SessionsSessions.{IsOnSameMap}
use Rattle.papaya_map.specs.Given.SessionsUnder.{HasGotPairUnder, HasSoughtUnder}
use Rattle.papaya_map.specs.Given.SessionsWalked.{GoesOn}
use Rattle.papaya_map.specs.Given.ViewsDeclared.view.View.{View}
use Rattle.papaya_map.specs.Given.ActsActs.{Insert}
use Rattle.seize_words.specs.declared.fault.Fault.{Fault}
use Rattle.seize_words.specs.declared.refused.RefusedKey.{RefusedKey}
use Rattle.papaya_map.specs.Given.CallersDeclared.caller.MapCaller.{MapCaller}

module _ {K S : Type 0} (same : K → K → Bool) (hash : S → K → ℕ) (key : K) where
  -- it has asked for this key, and its set had an element that equals it, or none
  abbrev pub SetHad : Bool → MapCaller K (Unit {0}) S → MapCaller K (Unit {0}) S → Type 0
  SetHad there c n = MapHadOne same hash key there c n

  -- the same, by a pass under a session that was lent
  abbrev pub SetHadUnder : Bool → MapCaller K (Unit {0}) S → View K (Unit {0}) S → View K (Unit {0}) S → Type 0
  SetHadUnder there c v w = HasSoughtUnder same hash key c there v w

  -- and of that element
  abbrev pub SetLentUnder : Option K → MapCaller K (Unit {0}) S → View K (Unit {0}) S → View K (Unit {0}) S → Type 0
  SetLentUnder element c v w = (pair : Option (K × Unit {0})) × (element ≡ option_map (λ p. p.0) pair) × HasGotPairUnder same hash key c pair v w

  -- it has put this key into its set, which came to have it as a new element, or in the place of one that equals it
  abbrev pub SetCameToHave : Bool → MapCaller K (Unit {0}) S → MapCaller K (Unit {0}) S → Type 0
  SetCameToHave new c n = (replaced : Bool) × (new ≡ not replaced) × MapCameToHave same hash key tt replaced c n

  -- it has taken the element out that equals this key, or its set had none
  abbrev pub SetGaveUp : Bool → MapCaller K (Unit {0}) S → MapCaller K (Unit {0}) S → Type 0
  SetGaveUp there c n = MapGaveUp same hash key there c n

module _ {K S : Type 0} (same : K → K → Bool) (hash : S → K → ℕ) where
  -- It has counted so many elements, by the shards of its set's count,
  abbrev pub SetCounted : ℕ → MapCaller K (Unit {0}) S → MapCaller K (Unit {0}) S → Type 0
  SetCounted count c n = MapCounted same hash count c n

  -- or whether that is 0;
  abbrev pub SetLookedEmpty : Bool → MapCaller K (Unit {0}) S → MapCaller K (Unit {0}) S → Type 0
  SetLookedEmpty empty c n = MapLookedEmpty same hash empty c n

  -- it has made room for so many more than were counted;
  abbrev pub SetHadRoom : ℕ → MapCaller K (Unit {0}) S → MapCaller K (Unit {0}) S → Type 0
  SetHadRoom additional c n = MapHadRoom same hash additional c n

  -- it has gone over its set, and no element is left that this had all the time,
  abbrev pub SetWasCleared : MapCaller K (Unit {0}) S → MapCaller K (Unit {0}) S → Type 0
  SetWasCleared c n = MapWasCleared same hash c n

  -- but those that a test has kept;
  abbrev pub SetWasSifted : MapCaller K (Unit {0}) S → MapCaller K (Unit {0}) S → Type 0
  SetWasSifted c n = MapWasSifted same hash c n

  -- or each of those was shown.
  abbrev pub SetWasShown : MapCaller K (Unit {0}) S → MapCaller K (Unit {0}) S → Type 0
  SetWasShown c n = MapWasShown same hash c n

-- It was compared with another set: both were counted, and where the counts are the same, each element that its walk has told was looked up there, up to the first that was missing,
module _ {K S T : Type 0} (same : K → K → Bool) (hash : S → K → ℕ) (by : T → K → ℕ) where
  abbrev pub SetsWereCompared : Bool → MapCaller K (Unit {0}) S → MapCaller K (Unit {0}) S → MapCaller K (Unit {0}) T → MapCaller K (Unit {0}) T → Type 0
  SetsWereCompared alike c n o p = HasComparedMaps same hash by (λ _ _. true) alike c n o p

  -- or the walk was refused.
  abbrev pub SetsWereNotCompared : Fault → MapCaller K (Unit {0}) S → MapCaller K (Unit {0}) S → MapCaller K (Unit {0}) T → MapCaller K (Unit {0}) T → Type 0
  SetsWereNotCompared fault c n o p = WasNotCompared same hash by fault c n o p

-- the key that comes back
abbrev pub key_of : {K : Type 0} → RefusedKey K → K
key_of r = r.key

module _ {K S : Type 0} (same : K → K → Bool) (hash : S → K → ℕ) where
  -- the session has put this key into the set by one call more, on the same set,
  abbrev pub PutsKey : K → MapCaller K (Unit {0}) S → MapCaller K (Unit {0}) S → Type 0
  PutsKey key c n = (new : Bool) × IsOnSameMap c n × SetCameToHave same hash key new c n

  -- or it was to, and was refused
  abbrev pub RefusesKey : RefusedKey K → MapCaller K (Unit {0}) S → MapCaller K (Unit {0}) S → Type 0
  RefusesKey r c n = WasRefused same hash (Insert r.key tt) r.fault c n

module _ {K S Q : Type 0} (same : K → K → Bool) (hash : S → K → ℕ) (stands : Q → K) where
  -- a walk by steps over these keys has gone on, and lends an element, or none
  abbrev pub SetGoesOn : MapCaller K (Unit {0}) S → Option K → List Q → View K (Unit {0}) S → List Q → View K (Unit {0}) S → Type 0
  SetGoesOn c element keys v rest w = (pair : Option (K × Unit {0})) × (element ≡ option_map (λ p. p.0) pair) × GoesOn same hash stands c pair keys v rest w
