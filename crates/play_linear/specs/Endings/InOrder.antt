-- That by the history of each list of acts a map ends in order: its pairs go by their places, table by table, and then its tables, from the root's on, and all of them have gone as it is over.
use Rattle.std.specs.Prelude.{◌≡◌, ◌<◌, ◌^◌, ℕ, Bool, List, [], None, Some}
use Rattle.std.specs.List.{AllByRecursion}
use Rattle.run_schedules.specs.declared.effect.Effect.{Effect}
use Rattle.run_schedules.specs.Schedules.After.{AtEachEvent}
use Rattle.run_schedules.specs.Schedules.Effects.{AtEachEffect}
use Rattle.run_schedules.specs.Schedules.Moment.{Moment}
use Rattle.run_schedules.specs.Schedules.Views.{size_of}
use Rattle.play_lists.specs.Given.ScenesScene.{slot_of}
use Rattle.play_lists.specs.Given.ActsDoings.{Doing}
use Rattle.play_lists.specs.Given.ActsLists.{Course, LedTo, Reached}
use Rattle.play_lists.specs.Agrees.Fresh.{MakesNew}
use Rattle.run_schedules.specs.Deeds.Deeds.{Deed, Ends, Entry, MapGoes, moment, worked}
use Rattle.run_schedules.specs.Deeds.History.{EndFinds, left_tables}
use Rattle.play_linear.specs.Linear.Linear.{IsOfOwn}
use Rattle.play_lists.specs.Played.Play.{State, first_state, play_all}

module _ {K V : Type 0} where
  -- What a step of an end does to its map finds that next, at the moment before it; and after the last one no pair of the map is there, and none of its tables.
  abbrev pub EndsSo : Deed K V → List Effect → Moment K V → Moment K V → Type 0
  EndsSo (Ends map) effects m w = AtEachEffect (EndFinds map) None (Some map) effects m
  EndsSo (MapGoes map) effects m w = AtEachEffect (EndFinds map) None (Some map) effects m × (size_of map w ≡ 0) × (left_tables map w ≡ [])
  EndsSo deed effects m w = Unit {0}

  abbrev pub EndsInOrder : List (Entry K V) → Entry K V → Type 0
  EndsInOrder log e = EndsSo e.deed e.effects (moment log) (worked e (moment log))

-- Keys have a hash by each hasher, and each map has one by its number.
module _ {K S : Type 0} (V : Type 0) (same : K → K → Bool) (by_hasher : S → K → ℕ) (hash : ℕ → K → ℕ) (batch_size roots : ℕ) where
  -- The promise: so it is of each entry wherever a list of acts has led that makes each map with a new number, whatever the values are with which closures abort.
  abbrev pub MapsEndInOrder : Type 0
  MapsEndInOrder =
      batch_size < 2 ^ 64 → (aborts : ℕ → V) (course : Course V same by_hasher batch_size roots slot_of) (doings : List (Doing K V S)) (y : Reached V same by_hasher batch_size roots slot_of)
      → LedTo V same by_hasher batch_size roots slot_of course doings y → AllByRecursion (IsOfOwn V same by_hasher hash batch_size roots) doings
      → MakesNew same by_hasher batch_size roots aborts doings (first_state roots)
      → (after : State K V S) × (play_all same by_hasher batch_size roots aborts doings (first_state roots) ≡ Some after) × AtEachEvent EndsInOrder after.history
