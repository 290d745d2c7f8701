-- The life of each pair, table and block: what an effect finds.
use Rattle.std.specs.Prelude.{◌≡◌, ℕ, ◌+◌, ◌%◌, ◌<◌, ◌≤◌, nat_le, nat_lt, Bool, true, false, List, [], ◌∷◌, length, filter, sum_by, Option, Some, None, MatchBool}
use Rattle.papaya_raw.specs.Given.TablesLengths.{len_of}
use Rattle.run_schedules.specs.declared.shapes.TableShape.{TableShape}
use Rattle.run_schedules.specs.Runs.Present.{slot_of_guard}
use Rattle.run_schedules.specs.declared.effect.Effect.{Effect}
use Rattle.run_schedules.specs.declared.effect.Effect.TheVariants.{Asked, PairMade, PairGivenUp, TableMade, TableGivenUp, Linked, Promoted, Copied, Stored, Replaced, Removed, Counted, Deferred, Retired, Reclaimed, Ended, Taken}
use Rattle.run_schedules.specs.declared.effect.Growth.TheVariants.{ABlock, ABucket}
use Rattle.run_schedules.specs.declared.effect.Spot.{Spot}
use Rattle.run_schedules.specs.declared.effect.TableId.{TableId}
use Rattle.run_schedules.specs.declared.effect.Thing.{Thing}
use Rattle.run_schedules.specs.declared.effect.Thing.TheVariants.{APair, ATable}
use Rattle.run_schedules.specs.Schedules.Lists.{is_in, least_free}
use Rattle.run_schedules.specs.Schedules.Things.{same_table, same_thing, same_spot}
use Rattle.run_schedules.specs.Schedules.Terms.{Terms, shards_of}
use Rattle.run_schedules.specs.Schedules.Moment.{Place, InMap, Handed, Left, GivenBack, UnderWay, MapThere, Moment}
use Rattle.run_schedules.specs.Schedules.Views.{map_at, grows_in_chunks, capacity_or, is_there, is_linked, is_retired, first_of, tables_of, is_stage, is_place, behind}
use Rattle.run_schedules.specs.Schedules.Tries.{has_pair_at}
use Rattle.run_schedules.specs.Schedules.Growing.{only_looks, AsksForBlock, AsksForBucket, Follows, IsFirstShape, IsNextRoot, has_value_for, none_before}
use Rattle.run_schedules.specs.Schedules.Entry.{ByCall, acting}
use Rattle.run_schedules.specs.Schedules.InUse.{used_slots}

-- where a pair is stored

-- in a table from the root on; in blocking mode, in the root's
abbrev pub IsFrom : Bool → ℕ → ℕ → Type 0
IsFrom true first turn = first ≤ turn
IsFrom false first turn = turn ≡ first

module _ {K V : Type 0} where
  -- at the place of the pair that it replaces, or at one that no pair of the map has
  abbrev pub IsFreeFor : Option ℕ → ℕ → Spot → Moment K V → Type 0
  IsFreeFor (Some p) map s m = same_spot (m.spot p) s ≡ true
  IsFreeFor None map s m = has_pair_at map s m ≡ false

  -- A copy leads to a later table that is there. In incremental mode the pair is in the map, and not before the root; in blocking mode one that comes
  -- late may be of a pair that has left, but is not reclaimed.
  abbrev pub MayCopy : Bool → ℕ → Moment K V → ℕ → Spot → Type 0
  MayCopy true map m n s =
      (m.place n ≡ InMap map) × (first_of map m ≤ (m.spot n).turn) × ((m.spot n).turn < s.turn) × (is_place is_linked map s m ≡ true)
  MayCopy false map m n s =
      (1 ≤ n) × (n ≤ length m.stored) × ((m.born n).map ≡ map)
      × (m.place n ≡ GivenBack → ⊥) × ((m.born n).turn < s.turn) × (is_place is_there map s m ≡ true)

-- how a pair is handed over

-- a pair that was copied is not retired while a table before the one in which it lies may still be the root
abbrev pub IsPast : ℕ → ℕ → ℕ → Type 0
IsPast born lies first = MatchBool (nat_lt born lies) (lies ≤ first) (Unit {0})

-- of the tables that are owed this is the first
abbrev pub is_first_table : TableId → List Thing → Bool
is_first_table t [] = false
is_first_table t (APair n ∷ things) = is_first_table t things
is_first_table t (ATable u ∷ things) = same_table t u

module _ {K V : Type 0} where
  -- A pair is put behind the table just before the one in which it lies, which it was copied past, and which is not reclaimed, in a map that grows in
  -- chunks. A table never has more behind it than it and those before it have places.
  abbrev pub MayDefer : ℕ → Moment K V → ℕ → TableId → Type 0
  MayDefer map m n t =
      (t.map ≡ map) × ((m.spot n).turn ≡ t.turn + 1) × ((m.born n).turn < (m.spot n).turn) × (is_stage is_there t m ≡ true)
      × (grows_in_chunks (map_at map m) ≡ true)
      × (length (behind t m.deferred) < sum_by (λ u. u.shape.len) (filter (λ u. nat_le u.table.turn t.turn) (tables_of map m)))

  -- a call retires what it took out, and where calls come one after another tables in the order of their turns
  abbrev pub MayRetire : ℕ → Moment K V → Thing → UnderWay K V → Type 0
  MayRetire map m (APair n) c = (is_in same_thing (APair n) c.owes ≡ true) × IsPast (m.born n).turn (m.spot n).turn (first_of map m)
  MayRetire map m (ATable t) c = MatchBool m.is_alone (is_first_table t c.owes ≡ true) (is_in same_thing (ATable t) c.owes ≡ true)

-- what is reclaimed was retired; what ended maps left over, only where everything is
abbrev pub MayReclaim : Bool → Place → Type 0
MayReclaim everything Handed = Unit {0}
MayReclaim everything Left = everything ≡ true
MayReclaim everything _ = ⊥

module _ {K V : Type 0} (terms : Terms) where
  -- what an effect of a call finds on its map, at these moments of the call
  abbrev pub CallFinds : List (Moment K V) → Moment K V → Effect → UnderWay K V → Type 0
  CallFinds moments m (Asked ABlock) c = AsksForBlock terms c (m ∷ moments)
  CallFinds moments m PairMade c = (c.is_short ≡ true) × (c.has_block ≡ false) × (has_value_for c.call c ≡ true)
  CallFinds moments m PairGivenUp c = c.has_block ≡ true
  CallFinds moments m (TableMade t) c = (c.is_short ≡ true) × (c.table ≡ None) × (t.map ≡ c.map) × (t.turn ≤ length (tables_of c.map m))
  CallFinds moments m (TableGivenUp t) c = (c.table ≡ Some t) × (t.turn < length (tables_of c.map m))
  CallFinds moments m (Linked t shape) c =
      (c.table ≡ Some t) × (t.turn ≡ length (tables_of c.map m)) × Follows terms c (m ∷ moments) (capacity_or (map_at c.map m)) shape (tables_of c.map m)
  CallFinds moments m (Promoted t) c =
      (t.map ≡ c.map) × (is_stage is_linked t m ≡ true) × IsNextRoot (grows_in_chunks (map_at c.map m)) (first_of c.map m) t.turn (tables_of c.map m)
      × (none_before c.map t.turn m ≡ true)
  CallFinds moments m (Copied n s) c = MayCopy (grows_in_chunks (map_at c.map m)) c.map m n s
  -- the n-th pair that is stored has the number n
  CallFinds moments m (Stored n s) c =
      (n ≡ length m.stored + 1) × (c.has_block ≡ true) × (is_place is_linked c.map s m ≡ true)
      × IsFrom (grows_in_chunks (map_at c.map m)) (first_of c.map m) s.turn
      × IsFreeFor c.replacing c.map s m
  CallFinds moments m (Replaced n) c = m.place n ≡ InMap c.map
  CallFinds moments m (Removed n) c = m.place n ≡ InMap c.map
  CallFinds moments m (Counted s) c = (0 < c.gained + c.lost) × (s ≡ slot_of_guard c.guard m.there % shards_of terms)
  CallFinds moments m (Deferred n t) c = (is_in same_thing (APair n) c.owes ≡ true) × MayDefer c.map m n t
  CallFinds moments m (Retired x) c = MayRetire c.map m x c
  CallFinds moments m _ c = ⊥

-- the first table of a map with a capacity
abbrev pub IsMapsFirst : Option MapThere → TableId → TableShape → Type 0
IsMapsFirst None t shape = ⊥
IsMapsFirst (Some f) t shape = (t.map ≡ f.number) × (t.turn ≡ 0) × IsFirstShape (len_of f.capacity) shape

module _ {K V : Type 0} where
  -- and what one of another event finds, which acts on this map, if on any
  abbrev pub EventFinds : Option ℕ → Bool → Moment K V → Effect → Type 0
  EventFinds map everything m (Asked ABlock) = Unit {0}
  EventFinds map everything m (Asked ABucket) = AsksForBucket m.slots (least_free (used_slots m.there))
  EventFinds (Some map) everything m (TableMade t) = (t.map ≡ map) × (t.turn ≡ 0)
  EventFinds (Some map) everything m (Linked t shape) = (tables_of map m ≡ []) × IsMapsFirst (map_at map m) t shape
  EventFinds map everything m (Reclaimed (APair n)) = MayReclaim everything (m.place n)
  EventFinds map everything m (Reclaimed (ATable t)) = is_stage is_retired t m ≡ true
  EventFinds (Some map) everything m (Ended n) = m.place n ≡ InMap map
  EventFinds (Some map) everything m (Taken t) = (t.map ≡ map) × (is_stage is_linked t m ≡ true)
  EventFinds _ everything m _ = ⊥

module _ {K V : Type 0} (terms : Terms) where
  -- a lookup has no effects at all
  abbrev pub Finds : Option (List ℕ) → Option ℕ → Bool → List (Moment K V) → Moment K V → Effect → Type 0
  Finds None map everything moments m effect = EventFinds map everything m effect
  Finds (Some caller) map everything moments m effect =
      ByCall (λ c. (only_looks c.call ≡ false) × CallFinds terms moments m effect c) (acting (Some caller) m)
