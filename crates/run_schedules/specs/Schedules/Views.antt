-- What is seen at a moment of a run: the finite map, calls by caller, maps by name, and the tables of a map.
use Rattle.std.specs.Prelude.{ℕ, zero, suc, ◌+◌, ◌==◌, nat_le, nat_lt, Bool, true, false, ◌&&◌, List, [], ◌∷◌, length, filter, find, map, Option, Some, None, option_map, if◌then◌else◌}
use Rattle.std.specs.List.{list_any}
use Rattle.papaya_raw.specs.Given.TablesChunks.{is_incremental}
use Rattle.run_schedules.specs.Runs.Log.{pair_at, is_key}
use Rattle.run_schedules.specs.Runs.Same.{is_same}
use Rattle.run_schedules.specs.declared.call.Reply.{Reply}
use Rattle.run_schedules.specs.declared.call.Reply.TheVariants.{Gives}
use Rattle.run_schedules.specs.declared.effect.TableId.{TableId}
use Rattle.run_schedules.specs.declared.effect.Spot.{Spot}
use Rattle.run_schedules.specs.Schedules.Things.{same_table, same_question}
use Rattle.run_schedules.specs.Schedules.Moment.{Place, InMap, Out, Handed, Behind, Left, UnderWay, MapThere, Stage, IsLinked, IsRetired, TableThere, Deferral, Moment}

-- the pair is in the map of this number
abbrev pub is_in_map : ℕ → Place → Bool
is_in_map map (InMap m) = map == m
is_in_map map _ = false

-- it is in some map
abbrev pub is_in_a_map : Place → Bool
is_in_a_map (InMap m) = true
is_in_a_map _ = false

-- it left its map and was not reclaimed
abbrev pub is_waiting : Place → Bool
is_waiting Out = true
is_waiting Handed = true
is_waiting Behind = true
is_waiting Left = true
is_waiting _ = false

-- how many of so many numbers are at places that pass the test
abbrev pub places_below : (Place → Bool) → (ℕ → Place) → ℕ → ℕ
places_below test place zero = 0
places_below test place (suc n) = (if test (place (suc n)) then 1 else 0) + places_below test place n

module _ {K V : Type 0} where
  -- of so many numbers, the highest one that is the number of a pair that is in the map with such a key
  abbrev pub found_below : (K → K → Bool) → ℕ → K → Moment K V → ℕ → Option ℕ
  found_below eq map k m zero = None
  found_below eq map k m (suc n) = if is_in_map map (m.place (suc n)) && is_key eq (pair_at m.stored (suc n)) k then Some (suc n) else found_below eq map k m n

  -- the finite map of a number: the pair of a key's class
  abbrev pub finite_map : (K → K → Bool) → ℕ → Moment K V → K → Option ℕ
  finite_map eq map m k = found_below eq map k m (length m.stored)

  -- how many pairs a map has
  abbrev pub size_of : ℕ → Moment K V → ℕ
  size_of map m = places_below (is_in_map map) m.place (length m.stored)

  abbrev pub call_of : List ℕ → Moment K V → Option (UnderWay K V)
  call_of caller m = find (λ c. is_same c.caller caller) m.calls

  abbrev pub map_of : List ℕ → Moment K V → Option MapThere
  map_of name m = find (λ f. is_same f.name name) m.maps

  -- the number of the map of this name
  abbrev pub number_of : List ℕ → Moment K V → Option ℕ
  number_of name m = option_map (λ f. f.number) (map_of name m)

  -- the map of this number
  abbrev pub map_at : ℕ → Moment K V → Option MapThere
  map_at map m = find (λ f. f.number == map) m.maps

-- the last reply to a question
abbrev pub reply_to : {V : Type 0} → Option ℕ → List (Option ℕ × Reply V) → Option (Reply V)
reply_to question [] = None
reply_to question (r ∷ replies) = if same_question question r.0 then Some r.1 else reply_to question replies

-- some reply gave a value
abbrev pub is_gift : {V : Type 0} → Reply V → Bool
is_gift (Gives v) = true
is_gift _ = false

abbrev pub has_gift : {V : Type 0} → List (Option ℕ × Reply V) → Bool
has_gift replies = list_any (λ r. is_gift r.1) replies

abbrev pub first_or : Option MapThere → ℕ
first_or None = 0
first_or (Some f) = f.first

abbrev pub capacity_or : Option MapThere → ℕ
capacity_or None = 0
capacity_or (Some f) = f.capacity

abbrev pub grows_in_chunks : Option MapThere → Bool
grows_in_chunks None = false
grows_in_chunks (Some f) = is_incremental f.mode

-- the table came into its map and is neither reclaimed nor ended with it
abbrev pub is_there : Stage → Bool
is_there IsLinked = true
is_there IsRetired = true
is_there _ = false

abbrev pub is_linked : Stage → Bool
is_linked IsLinked = true
is_linked _ = false

abbrev pub is_retired : Stage → Bool
is_retired IsRetired = true
is_retired _ = false

module _ {K V : Type 0} where
  -- the turn of the root's table of a map
  abbrev pub first_of : ℕ → Moment K V → ℕ
  first_of map m = first_or (map_at map m)

  -- the tables that ever were tables of a map, in order
  abbrev pub tables_of : ℕ → Moment K V → List TableThere
  tables_of map m = filter (λ t. t.table.map == map) m.tables

  -- those from the root on
  abbrev pub chain_of : ℕ → Moment K V → List TableThere
  chain_of map m = filter (λ t. nat_le (first_of map m) t.table.turn) (tables_of map m)

  -- a table that is at such a stage
  abbrev pub is_stage : (Stage → Bool) → TableId → Moment K V → Bool
  is_stage test t m = list_any (λ u. same_table u.table t && test u.stage) m.tables

  -- a place of a table of the map that is at such a stage
  abbrev pub is_place : (Stage → Bool) → ℕ → Spot → Moment K V → Bool
  is_place test map s m = list_any (λ u. same_table u.table (record { map = map; turn = s.turn }) && test u.stage && nat_lt s.place u.shape.len) m.tables

-- what waits behind a table, the last one first
abbrev pub behind : TableId → List Deferral → List ℕ
behind t deferred = map (λ d. d.pair) (filter (λ d. same_table d.behind t) deferred)

-- the newest one of these
abbrev pub last_of : TableThere → List TableThere → TableThere
last_of t [] = t
last_of t (u ∷ tables) = last_of u tables
