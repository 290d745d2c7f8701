-- That the history of each list of acts is linearizable.
use Rattle.std.specs.Prelude.{◌≡◌, ◌<◌, ◌^◌, ℕ, Bool, List, Some}
use Rattle.std.specs.List.{AllByRecursion}
use Rattle.play_lists.specs.Given.ScenesScene.{slot_of}
use Rattle.run_schedules.specs.Schedules.After.{AtEachEvent}
use Rattle.play_lists.specs.Given.ActsAsSteps.{IsOwn}
use Rattle.play_lists.specs.Given.ActsDoings.{Doing, Does}
use Rattle.play_lists.specs.Given.ActsLists.{Course, LedTo, Reached}
use Rattle.play_lists.specs.Agrees.Fresh.{MakesNew}
use Rattle.run_schedules.specs.Deeds.History.{IsLinearizable}
use Rattle.play_lists.specs.Played.Play.{State, first_state, play_all}

-- Keys have a hash by each hasher, and each map has one by its number.
module _ {K S : Type 0} (V : Type 0) (same : K → K → Bool) (by_hasher : S → K → ℕ) (hash : ℕ → K → ℕ) (batch_size roots : ℕ) where
  -- an act is one of its own: a map is made with its own hash, and a row begins on the slot of its caller
  abbrev pub IsOfOwn : Doing K V S → Type 0
  IsOfOwn (Does act) = IsOwn by_hasher hash act
  IsOfOwn doing = Unit {0}

  -- The promise: wherever a list of acts has led that makes each map with a new number, each entry of the history that it comes to as it is played is linearizable,
  -- whatever the values are with which closures abort.
  abbrev pub ListsAreLinearizable : Type 0
  ListsAreLinearizable =
      batch_size < 2 ^ 64 → (aborts : ℕ → V) (course : Course V same by_hasher batch_size roots slot_of) (doings : List (Doing K V S)) (y : Reached V same by_hasher batch_size roots slot_of)
      → LedTo V same by_hasher batch_size roots slot_of course doings y → AllByRecursion IsOfOwn doings
      → MakesNew same by_hasher batch_size roots aborts doings (first_state roots)
      → (after : State K V S) × (play_all same by_hasher batch_size roots aborts doings (first_state roots) ≡ Some after) × AtEachEvent (IsLinearizable same) after.history
