-- Numbers of maps: of one with which no map has come nothing is there yet, and no map is made with a number that another one has, or had, unless the making of that was refused.
use Rattle.std.specs.Prelude.{◌≡◌, ◌≢◌, ◌==◌, ◌&&◌, ℕ, Bool, true, false, List, [], ◌∷◌, None, Some, if◌then◌else◌}
use Rattle.std.specs.List.{All, AllByRecursion}
use Rattle.run_schedules.specs.Schedules.Moment.{InMap, MapThere, Moment}
use Rattle.run_schedules.specs.Schedules.Views.{map_at, tables_of}
use Rattle.many_acts.specs.Acts.Acts.{Act, BeginsMaking}
use Rattle.many_acts.specs.Acts.Doings.{Doing, Does}
use Rattle.run_schedules.specs.Deeds.Deeds.{Deed, Entry, MapComes, MapFails, named}
use Rattle.play_lists.specs.Played.Play.{State, first_state, play}

module _ {K V : Type 0} where
  -- by it a map comes with this number
  abbrev pub comes_with : ℕ → Deed K V → Bool
  comes_with n (MapComes map root mode capacity) = map == n
  comes_with n deed = false

  -- By it the making of the map of this number is refused: where numbers come again, this one is given back.
  abbrev pub gives_back : Bool → ℕ → Deed K V → Bool
  gives_back again n (MapFails map) = again && (map == n)
  gives_back again n deed = false

  -- a map has come with it, and where numbers come again, it was not given back since
  abbrev pub in_use : Bool → ℕ → List (Entry K V) → Bool
  in_use again n [] = false
  in_use again n (e ∷ log) = if comes_with n e.deed then true else (if gives_back again n e.deed then false else in_use again n log)

  -- a map has come with it, whatever came of that
  abbrev pub has_come : ℕ → List (Entry K V) → Bool
  has_come n log = in_use false n log

  -- a map has come with it, and its making was not refused
  abbrev pub is_taken : ℕ → List (Entry K V) → Bool
  is_taken n log = in_use true n log

  -- nothing is there of a map of this number: no table, no pair, no count, and no call
  pub record IsBare (n : ℕ) (m : Moment K V) : Type 0 where
    pub no_table : tables_of n m ≡ []
    pub no_pair : (k : ℕ) → m.place k ≢ InMap n
    pub no_count : (s : ℕ) → m.shards n s ≡ 0
    pub no_call : AllByRecursion (λ c. c.map ≢ n) m.calls

  -- nor is a map with this number
  pub record IsFresh (n : ℕ) (m : Moment K V) : Type 0 where
    pub no_map : map_at n m ≡ None
    pub bare : IsBare n m

-- a map has its number as its name
abbrev pub IsNamed : MapThere → Type 0
IsNamed f = f.name ≡ named f.number

abbrev pub AreNamed : {K V : Type 0} → Moment K V → Type 0
AreNamed m = All IsNamed m.maps

module _ {K V S : Type 0} where
  -- a map is made with a number that is not taken
  abbrev pub HasNewNumber : State K V S → Act K V S → Type 0
  HasNewNumber x (BeginsMaking i map hasher given places) = is_taken map x.history ≡ false
  HasNewNumber x act = Unit {0}

  -- the making of a map with this number begins
  abbrev pub makes_one : ℕ → Doing K V S → Bool
  makes_one n (Does (BeginsMaking i map hasher given places)) = map == n
  makes_one n doing = false

  abbrev pub is_made : ℕ → List (Doing K V S) → Bool
  is_made n [] = false
  is_made n (doing ∷ doings) = if makes_one n doing then true else is_made n doings

  -- No number is given to two maps that a list of acts makes.
  abbrev pub MakesOnce : List (Doing K V S) → Type 0
  MakesOnce [] = Unit {0}
  MakesOnce (Does (BeginsMaking i map hasher given places) ∷ doings) = (is_made map doings ≡ false) × MakesOnce doings
  MakesOnce (doing ∷ doings) = MakesOnce doings

-- Keys have a hash by each hasher; a batch has such a size, and there are so many roots; and a closure that is told to abort as the n-th act aborts with that.
module _ {K V S : Type 0} (same : K → K → Bool) (by_hasher : S → K → ℕ) (batch_size roots : ℕ) (aborts : ℕ → V) where
  abbrev pub IsNew : State K V S → Doing K V S → Type 0
  IsNew x (Does act) = HasNewNumber x act
  IsNew x doing = Unit {0}

  -- Each map that a list makes, as it is played from a state on, has a number that is not taken: none has come with it, or its making was refused.
  abbrev pub MakesNew : List (Doing K V S) → State K V S → Type 0
  MakesNew [] x = Unit {0}
  MakesNew (doing ∷ doings) x = IsNew x doing × ((y : State K V S) → play same by_hasher batch_size roots aborts doing x ≡ Some y → MakesNew doings y)

  -- The promise: a list in which no number is given to two maps makes each with a new number.
  abbrev pub OnceIsNew : Type 0
  OnceIsNew = (doings : List (Doing K V S)) → MakesOnce doings → MakesNew doings (first_state roots)
