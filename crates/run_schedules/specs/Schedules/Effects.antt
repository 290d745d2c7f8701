-- What an effect changes, one after another: of the pairs, the tables, and the call whose effect it is.
use Rattle.std.specs.Prelude.{ℕ, zero, suc, ◌+◌, ◌-◌, ◌%◌, ◌^◌, ◌==◌, nat_lt, Bool, true, false, not, ◌&&◌, List, [], ◌∷◌, ◌++◌, length, filter, map, flat_map, Option, Some, None, if◌then◌else◌}
use Rattle.run_schedules.specs.Runs.Same.{is_same}
use Rattle.run_schedules.specs.declared.call.Call.{Call}
use Rattle.run_schedules.specs.declared.call.Call.TheVariants.{On}
use Rattle.run_schedules.specs.declared.effect.Effect.{Effect}
use Rattle.run_schedules.specs.declared.effect.Effect.TheVariants.{Asked, PairMade, PairGivenUp, TableMade, TableGivenUp, Linked, Promoted, Copied, Stored, Replaced, Removed, Counted, Deferred, Retired, Reclaimed, Ended, Taken}
use Rattle.run_schedules.specs.declared.effect.Spot.{Spot}
use Rattle.run_schedules.specs.declared.effect.TableId.{TableId}
use Rattle.run_schedules.specs.declared.effect.Thing.{Thing}
use Rattle.run_schedules.specs.declared.effect.Thing.TheVariants.{APair, ATable}
use Rattle.run_schedules.specs.Schedules.Lists.{is_among, without_one, put}
use Rattle.run_schedules.specs.Schedules.Things.{same_table, same_thing, pair_in}
use Rattle.run_schedules.specs.Schedules.Sequential.{means, key_of, answer_due, value_put}
use Rattle.run_schedules.specs.Schedules.Moment.{Place, Unborn, InMap, Out, Handed, Behind, Left, GivenBack, UnderWay, MapThere, Stage, IsLinked, IsRetired, IsReclaimed, IsTaken, TableThere, Deferral, Sheltered, Moment}
use Rattle.run_schedules.specs.Schedules.Views.{is_in_map, map_at, grows_in_chunks, reply_to, first_of, behind}
use Rattle.run_schedules.specs.Schedules.Entry.{Entry, caller_of, acting, acted_on}
use Rattle.run_schedules.specs.Schedules.Beginning.{at_work}

-- of pairs

-- a number of no map has no pairs
abbrev pub in_map : Option ℕ → Place
in_map None = Unborn
in_map (Some map) = InMap map

-- these pairs are elsewhere
abbrev pub all_at : Place → List ℕ → (ℕ → Place) → ℕ → Place
all_at there numbers place n = if is_among n numbers then there else place n

-- where pairs are after an effect on a map; what waited behind a table is retired right after it, or left over
abbrev pub place_by : Option ℕ → List Deferral → Effect → (ℕ → Place) → ℕ → Place
place_by map deferred (Stored n s) place = put n (in_map map) place
place_by map deferred (Replaced n) place = put n Out place
place_by map deferred (Removed n) place = put n Out place
place_by map deferred (Retired (APair n)) place = put n Handed place
place_by map deferred (Deferred n t) place = put n Behind place
place_by map deferred (Reclaimed (APair n)) place = put n GivenBack place
place_by map deferred (Reclaimed (ATable t)) place = all_at Handed (behind t deferred) place
place_by map deferred (Ended n) place = put n GivenBack place
place_by map deferred (Taken t) place = all_at Left (behind t deferred) place
place_by map deferred _ place = place

abbrev pub born_by : Option ℕ → Effect → (ℕ → TableId) → ℕ → TableId
born_by (Some map) (Stored n s) born = put n (record { map = map; turn = s.turn }) born
born_by map _ born = born

-- a copy leads forward; one that comes late leaves the pair where it lies
abbrev pub later : Spot → Spot → Spot
later s t = if nat_lt s.turn t.turn then t else s

abbrev pub copy_by : Effect → (ℕ → Spot) → ℕ → Spot
copy_by (Copied n s) copy = put n (later (copy n) s) copy
copy_by _ copy = copy

-- In incremental mode a pair lies where it was copied at once. In blocking mode all do that have a copy there, as the root comes to a table.
abbrev pub spot_by : Bool → (ℕ → Place) → (ℕ → Spot) → Effect → (ℕ → Spot) → ℕ → Spot
spot_by chunks place copy (Stored n s) spot = put n s spot
spot_by true place copy (Copied n s) spot = put n (later (spot n) s) spot
spot_by false place copy (Promoted t) spot = λ n. if is_in_map t.map (place n) && ((copy n).turn == t.turn) then copy n else spot n
spot_by chunks place copy _ spot = spot

abbrev pub deferred_by : Effect → List Deferral → List Deferral
deferred_by (Deferred n t) deferred = record { pair = n; behind = t } ∷ deferred
deferred_by (Reclaimed (ATable t)) deferred = filter (λ d. not (same_table d.behind t)) deferred
deferred_by (Taken t) deferred = filter (λ d. not (same_table d.behind t)) deferred
deferred_by _ deferred = deferred

-- the pairs that an effect reclaims
abbrev pub pairs_back : Effect → List ℕ
pairs_back (Reclaimed x) = pair_in x
pairs_back (Ended n) = n ∷ []
pairs_back _ = []

-- of tables

abbrev pub at_stage : TableId → Stage → TableThere → TableThere
at_stage t stage u = if same_table u.table t then record u { stage = stage } else u

abbrev pub tables_by : Effect → List TableThere → List TableThere
tables_by (Linked t shape) tables = tables ++ record { table = t; shape = shape; stage = IsLinked } ∷ []
tables_by (Retired (ATable t)) tables = map (at_stage t IsRetired) tables
tables_by (Reclaimed (ATable t)) tables = map (at_stage t IsReclaimed) tables
tables_by (Taken t) tables = map (at_stage t IsTaken) tables
tables_by _ tables = tables

abbrev pub promoted : TableId → MapThere → MapThere
promoted t f = if f.number == t.map then record f { first = t.turn } else f

abbrev pub maps_by : Effect → List MapThere → List MapThere
maps_by (Promoted t) maps = map (promoted t) maps
maps_by _ maps = maps

-- which tables a map's root has passed as it comes from one turn to another
abbrev pub passed : ℕ → ℕ → ℕ → List Thing
passed map first zero = []
passed map first (suc n) = if nat_lt n first then [] else passed map first n ++ ATable (record { map = map; turn = n }) ∷ []

module _ {K V : Type 0} where
  -- what an effect takes out of a map: a pair, or the tables that its root passes
  abbrev pub out_by : Moment K V → Effect → List Thing
  out_by m (Replaced n) = APair n ∷ []
  out_by m (Removed n) = APair n ∷ []
  out_by m (Promoted t) = passed t.map (first_of t.map m) t.turn
  out_by m _ = []

  -- in the critical section of every guard that is there
  abbrev pub shelter : List Thing → Moment K V → List Sheltered
  shelter things m = flat_map (λ g. map (λ x. record { guard = g.name; thing = x }) things) m.there.guards

-- of the call whose effect it is

-- one pair more, where it takes the place of none
abbrev pub gain : Option ℕ → ℕ
gain None = 1
gain (Some p) = 0

module _ {K V : Type 0} where
  -- the pair that the call stores next, if it may store one
  abbrev pub new_pair : Call K V → UnderWay K V → ℕ → List (K × V)
  new_pair (On one) c n = map (λ v. (key_of one, v)) (value_put (means one (reply_to c.replacing c.replies) c.replacing n))
  new_pair _ c n = []

  abbrev pub stored_by : Option (UnderWay K V) → Effect → List (K × V) → List (K × V)
  stored_by (Some c) (Stored n s) stored = stored ++ new_pair c.call c n
  stored_by _ _ stored = stored

  -- what a call on one key owes as an answer once it has changed its map
  abbrev pub due_for : Call K V → UnderWay K V → Option ℕ → ℕ → UnderWay K V
  due_for (On one) c old new = record c { due = answer_due (means one (reply_to old c.replies) old new) }
  due_for _ c old new = c

  abbrev pub call_by : Moment K V → Effect → UnderWay K V → UnderWay K V
  call_by m (Asked growth) c = record c { is_short = true }
  call_by m PairMade c = record c { is_short = false; has_block = true }
  call_by m PairGivenUp c = record c { has_block = false }
  call_by m (TableMade t) c = record c { is_short = false; table = Some t }
  call_by m (TableGivenUp t) c = record c { table = None }
  call_by m (Linked t shape) c = record c { table = None }
  call_by m (Promoted t) c = record c { owes = c.owes ++ out_by m (Promoted t) }
  call_by m (Stored n s) c = record (due_for c.call c c.replacing n) { gained = c.gained + gain c.replacing; replacing = None; has_block = false }
  call_by m (Replaced p) c = record c { replacing = Some p; owes = c.owes ++ APair p ∷ [] }
  call_by m (Removed p) c = record (due_for c.call c (Some p) (length m.stored + 1)) { lost = c.lost + 1; owes = c.owes ++ APair p ∷ [] }
  call_by m (Counted s) c = record c { gained = 0; lost = 0 }
  call_by m (Deferred n t) c = record c { owes = without_one same_thing (APair n) c.owes; has_handed = true }
  call_by m (Retired x) c = record c { owes = without_one same_thing x c.owes; has_handed = true }
  call_by m _ c = c

  abbrev pub calls_by : Option (List ℕ) → (UnderWay K V → UnderWay K V) → List (UnderWay K V) → List (UnderWay K V)
  calls_by None change calls = calls
  calls_by (Some caller) change calls = map (λ c. if is_same c.caller caller then change c else c) calls

  -- a word of a map's count, with what a call has stored and removed
  abbrev pub word_with : UnderWay K V → ℕ → ℕ
  word_with c word = (word + c.gained + (2 ^ 64 - c.lost % 2 ^ 64)) % 2 ^ 64

  abbrev pub shards_by : Option (UnderWay K V) → Effect → (ℕ → ℕ → ℕ) → ℕ → ℕ → ℕ
  shards_by (Some c) (Counted s) shards = put c.map (put s (word_with c (shards c.map s)) (shards c.map)) shards
  shards_by _ _ shards = shards

  abbrev pub is_chunked : Option ℕ → Moment K V → Bool
  is_chunked None m = false
  is_chunked (Some map) m = grows_in_chunks (map_at map m)

  -- after one effect of the call of this caller, on this map
  abbrev pub with_effect : Option (List ℕ) → Option ℕ → Effect → Moment K V → Moment K V
  with_effect caller map effect m =
      record m {
        sheltered = shelter (out_by m effect) m ++ m.sheltered;
        calls = calls_by caller (call_by m effect) m.calls;
        stored = stored_by (acting caller m) effect m.stored;
        place = place_by map m.deferred effect m.place;
        born = born_by map effect m.born;
        spot = spot_by (is_chunked map m) m.place m.copy effect m.spot;
        copy = copy_by effect m.copy;
        deferred = deferred_by effect m.deferred;
        given_back = m.given_back ++ pairs_back effect;
        maps = maps_by effect m.maps;
        shards = shards_by (acting caller m) effect m.shards;
        tables = tables_by effect m.tables;
      }

  abbrev pub with_effects : Option (List ℕ) → Option ℕ → List Effect → Moment K V → Moment K V
  with_effects caller map [] m = m
  with_effects caller map (f ∷ effects) m = with_effects caller map effects (with_effect caller map f m)

  -- the moment at which the effects of an event are there
  abbrev pub worked : Entry K V → Moment K V → Moment K V
  worked e m = let b = at_work e m in with_effects (caller_of e.event) (acted_on e.event b) e.effects b

  -- P holds of each effect of an event, and of the moment that it finds
  abbrev pub AtEachEffect : (Moment K V → Effect → Type 0) → Option (List ℕ) → Option ℕ → List Effect → Moment K V → Type 0
  AtEachEffect P caller map [] m = Unit {0}
  AtEachEffect P caller map (f ∷ effects) m = P m f × AtEachEffect P caller map effects (with_effect caller map f m)
